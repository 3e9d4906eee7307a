pub mod Quiet
pub mod Ready
pub mod Complete
pub mod NoFail
pub mod SureRun
