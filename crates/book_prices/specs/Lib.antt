pub mod Rate
pub mod Worth
