pub mod ListLemmas
pub mod Named
pub mod ToldRules
pub mod Worked
