pub mod ArraySizes
pub mod PackedValues
pub mod Quotients
pub mod Sizes
pub mod ValueLanes
