pub mod Pairs
pub mod Related
pub mod Model
pub mod Needs
pub mod Examples
pub mod Chosen
pub mod Settings
pub mod Step
