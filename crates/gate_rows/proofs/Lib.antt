pub mod ComparingLemmas
pub mod CounterLemmas
pub mod KeptLemmas
pub mod LineLemmas
pub mod ReadLemmas
pub mod SplitLemmas
