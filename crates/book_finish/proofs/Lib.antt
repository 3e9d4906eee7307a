pub mod BoundLemmas
pub mod FinishLemmas
pub mod LimitLemmas
pub mod MarkLemmas
pub mod NumberLemmas
pub mod StepLemmas
pub mod SumLemmas
