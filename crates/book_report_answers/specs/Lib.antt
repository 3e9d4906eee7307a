pub mod LotsAsked
pub mod Reports
