pub mod LastLines
pub mod Sample
pub mod Shown
