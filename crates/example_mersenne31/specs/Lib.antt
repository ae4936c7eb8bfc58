pub mod Elements
pub mod ComplexGenerators
