pub mod BookLaws
pub mod EditLaws
pub mod ExactLaws
pub mod InverseLaws
pub mod KindLaws
pub mod OrderLaws
pub mod PartLaws
pub mod ThreeRules
