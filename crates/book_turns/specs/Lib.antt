pub mod Changes
pub mod Standing
pub mod Turned
pub mod Whole
