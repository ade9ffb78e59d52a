pub mod Back
pub mod New
pub mod Shared
