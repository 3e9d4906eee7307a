pub mod After
pub mod AmountLemmas
pub mod CheckedLemmas
pub mod ExtentLemmas
pub mod FieldLemmas
pub mod FileLemmas
pub mod GatheredLemmas
pub mod KeptLemmas
pub mod ParseLemmas
pub mod PartLemmas
pub mod ReadingLemmas
pub mod RecordLemmas
pub mod RuleLemmas
pub mod SaidLemmas
pub mod StepLemmas
pub mod SummaryLemmas
pub mod TotalLemmas
pub mod WalkLemmas
mod WorkedRows
mod WorkedTree
