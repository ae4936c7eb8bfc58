-- Values side by side: lanes of a packing, rows of a fixed length, vectors of packings.
pub mod Lanes
pub mod LaneLaws
pub mod Rows
pub mod RowRing
pub mod VectorLanes
pub mod InterleavedBelow
pub mod Interleaves
pub mod LaneBlocks
