pub mod AccountRules
pub mod Children
pub mod Group
pub mod Order
pub mod Path
pub mod Rules
pub mod Soundness
pub mod Tree
