pub mod DueLemmas
pub mod MonthLemmas
pub mod NextLemmas
pub mod OccurrenceLemmas
pub mod Weekdays
mod WorkedRows
