mod ArrayItems
mod WordBlocks
pub mod LaneValues
