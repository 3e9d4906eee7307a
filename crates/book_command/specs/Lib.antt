pub mod Lifted
pub mod Rates
pub mod Words
