pub mod Spelled
pub mod Types
