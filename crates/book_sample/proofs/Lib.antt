pub mod LastLemmas
pub mod SampleLemmas
pub mod ShownLemmas
pub mod Worked
