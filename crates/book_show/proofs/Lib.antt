pub mod OpeningLemmas
pub mod WordLemmas
pub mod Worked
