pub mod Answered
pub mod Balances
