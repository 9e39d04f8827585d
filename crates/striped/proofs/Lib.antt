pub mod ByteLemmas
pub mod ChunkLemmas
pub mod GroupLemmas
pub mod LayoutLemmas
pub mod ReadLemmas
pub mod RowSteps
pub mod SchemeLemmas
