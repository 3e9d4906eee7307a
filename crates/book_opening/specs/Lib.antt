pub mod BookRows
pub mod Changes
pub mod FirstOdd
pub mod Opening
pub mod Reading
pub mod State
pub mod Steps
