pub mod Edits
pub mod Import
pub mod KnownKeys
pub mod Laws
pub mod Steps
