pub mod Layers
pub mod Rebuild
pub mod Raise
pub mod Change
pub mod Sides
pub mod Clash
