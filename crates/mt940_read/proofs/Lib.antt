pub mod AmountLemmas
pub mod AnswerLemmas
pub mod CheckedLemmas
pub mod EntryLemmas
pub mod FormLemmas
pub mod KeptReading
pub mod PageLemmas
pub mod RunLemmas
pub mod SlashLemmas
pub mod StepLemmas
pub mod TookLemmas
pub mod TotalLemmas
pub mod TreeLemmas
pub mod ValueLemmas
mod Worked
