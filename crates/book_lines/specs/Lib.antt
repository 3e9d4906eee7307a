pub mod Lines
pub mod Marks
pub mod Transcript
pub mod Room
pub mod RunClause
pub mod Loop
pub mod WholeClause
pub mod EndFaults
