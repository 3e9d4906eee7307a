pub mod Faults
pub mod FileRows
