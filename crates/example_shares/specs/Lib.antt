pub mod Secrets
pub mod Lagrange
pub mod Denominators
pub mod ShareLists
