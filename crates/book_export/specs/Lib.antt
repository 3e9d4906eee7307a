pub mod Entries
pub mod Export
pub mod Names
pub mod Prices
pub mod Symbols
pub mod Texts
