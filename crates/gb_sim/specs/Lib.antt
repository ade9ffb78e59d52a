pub mod Need
pub mod Reads
pub mod Sim
