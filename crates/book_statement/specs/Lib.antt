pub mod Checks
pub mod Currencies
pub mod Dates
pub mod Keys
pub mod Lists
pub mod Numbers
pub mod Pieces
pub mod Texts
