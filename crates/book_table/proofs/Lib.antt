pub mod ColumnLemmas
pub mod DayBytes
