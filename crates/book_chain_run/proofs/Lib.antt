pub mod Moves
pub mod StepLaws
pub mod PlanLaws
pub mod RunLaws
