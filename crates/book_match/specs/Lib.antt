pub mod AmountIndex
pub mod Bounds
pub mod Kept
pub mod Proposal
pub mod Rank
pub mod Taken
