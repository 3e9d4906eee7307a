pub mod Route
pub mod Routing
pub mod Fields
pub mod Head
pub mod Exchange
pub mod Judgement
pub mod Reading
pub mod Response
