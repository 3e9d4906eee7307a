pub mod OpenLaws
pub mod CountLaws
pub mod CompleteLaws
pub mod KeptLaws
pub mod SureLaws
