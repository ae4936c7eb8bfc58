pub mod Parts
pub mod CosetValues
pub mod PointTables
