pub mod Answers
pub mod Faults
pub mod Rows
pub mod Usual
pub mod Words
