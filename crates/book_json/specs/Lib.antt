pub mod Forms
pub mod Line
pub mod Members
pub mod Reads
pub mod Words
