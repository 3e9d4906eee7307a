pub mod LineLemmas
pub mod MarkLemmas
pub mod RunLemmas
pub mod RoomLemmas
pub mod LoopLemmas
pub mod LinesLemmas
pub mod RunClauseLemmas
pub mod AnswerLemmas
pub mod CallerLemmas
pub mod WholeLemmas
mod Worked
