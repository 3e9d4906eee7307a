pub mod Accepting
pub mod OverTcp
pub mod PortsInMemory
