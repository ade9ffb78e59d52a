pub mod Equality
pub mod Level
pub mod NoteSteps
pub mod Once
pub mod Operators
pub mod Parts
pub mod SameModules
