pub mod DayLemmas
pub mod EachLemmas
pub mod OneLine
pub mod TakeLemmas
pub mod Worked
