pub mod Faults
pub mod Lines
pub mod Tables
pub mod Words
pub mod Memory
pub mod Streams
