pub mod ComplexNumbers
pub mod ComplexTower
pub mod Elements
pub mod MontgomeryForms
