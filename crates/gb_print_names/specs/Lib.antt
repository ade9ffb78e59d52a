pub mod Open
pub mod Shapes
pub mod BoundNames
pub mod Text
pub mod Names
pub mod Types
pub mod Modules
pub mod Occurring
