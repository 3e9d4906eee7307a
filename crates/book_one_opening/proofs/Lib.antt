pub mod Codes
pub mod RecordCodes
pub mod OneOpening
