pub mod Instances
pub mod Interfaces
pub mod Named
