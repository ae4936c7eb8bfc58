pub mod BoundedSequence
pub mod ChainTerms
pub mod ChunkLengths
pub mod PackedPowers
pub mod SumsProducts
