pub mod RowLemmas
pub mod StreamLemmas
