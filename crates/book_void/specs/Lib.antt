pub mod Voiding
