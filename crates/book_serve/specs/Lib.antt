pub mod Statuses
pub mod Exchange
pub mod Link
pub mod Serving
pub mod Served
