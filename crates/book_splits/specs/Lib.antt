pub mod Balance
pub mod Check
pub mod Counted
pub mod Owner
pub mod SplitCount
pub mod TransactionRules
