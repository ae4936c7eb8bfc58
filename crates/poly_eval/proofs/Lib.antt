pub mod Indices
pub mod Steps
pub mod PartValues
pub mod PointSquares
pub mod PointTables
pub mod VectorValues
