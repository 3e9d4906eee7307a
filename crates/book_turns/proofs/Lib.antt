pub mod ChangeFits
pub mod CurrencyLemmas
pub mod RowTurns
pub mod SmallLemmas
pub mod TurnLemmas
