pub mod BalanceLemmas
pub mod KeyLemmas
pub mod RowLemmas
pub mod WorkedRows
