pub mod BalanceLemmas
pub mod MoveLemmas
pub mod StepLemmas
