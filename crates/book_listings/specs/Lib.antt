pub mod Account
pub mod Accounts
pub mod Check
pub mod Command
pub mod Commodities
pub mod Find
pub mod Journal
pub mod Schedules
