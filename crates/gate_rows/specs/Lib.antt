pub mod Comparing
pub mod Counters
pub mod Faults
pub mod KeptRows
pub mod Lines
pub mod RowWords
