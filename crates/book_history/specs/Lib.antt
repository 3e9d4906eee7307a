pub mod History
pub mod Leaving
pub mod Numbers
pub mod Passes
pub mod Placing
pub mod Steps
pub mod Turns
