pub mod DueDays
pub mod NextDay
pub mod Recurrence
