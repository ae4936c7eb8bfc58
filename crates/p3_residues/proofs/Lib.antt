pub mod Euclid
pub mod Remainders
pub mod Reductions
pub mod PowerQuotients
pub mod Shifts
pub mod ModularLanes
pub mod Blocks
pub mod Interleaving
