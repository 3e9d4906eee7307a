pub mod Lots
pub mod Sides
