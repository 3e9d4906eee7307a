pub mod Register
pub mod Weights
