pub mod Change
pub mod Changes
pub mod Counts
pub mod Ledger
pub mod Lots
pub mod Opening
pub mod Page
pub mod Room
