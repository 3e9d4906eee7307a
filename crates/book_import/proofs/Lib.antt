pub mod DrawnLaws
pub mod FileLemmas
pub mod ImportLaws
pub mod KeyLemmas
pub mod NameLemmas
pub mod NewLaws
pub mod StepLemmas
pub mod Worked
