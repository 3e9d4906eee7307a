pub mod ChangeLemmas
pub mod ChunkLemmas
pub mod CutLemmas
pub mod ListLemmas
pub mod SumLemmas
pub mod WorkedRows
