pub mod ChainChanges
pub mod ChainCommands
pub mod ChainLaws
pub mod KeptSplits
pub mod ListSums
pub mod NewRecord
pub mod Worked
