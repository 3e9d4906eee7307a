pub mod Book
pub mod Edit
pub mod EditRules
pub mod Exact
pub mod Inverse
pub mod Room
pub mod Thing
