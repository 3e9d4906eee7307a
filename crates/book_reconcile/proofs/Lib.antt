pub mod KeptLemmas
pub mod OrderLemmas
pub mod SumLemmas
pub mod Worked
