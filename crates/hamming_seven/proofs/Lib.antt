pub mod ChunkLemmas
pub mod FirstTable
pub mod FirstTest
pub mod StageLemmas
pub mod TableLemmas
