pub mod CheckedRows
pub mod CopyWords
pub mod Ended
