pub mod DayLemmas
pub mod OwnLineLemmas
pub mod PlainLemmas
pub mod Worked
