pub mod Broken
pub mod Names
pub mod Words
