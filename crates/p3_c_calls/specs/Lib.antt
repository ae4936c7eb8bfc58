pub mod ExtensionCalls
pub mod CosetCalls
pub mod RunCalls
pub mod LimbCalls
