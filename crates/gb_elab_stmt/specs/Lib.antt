pub mod Targets
pub mod Calls
pub mod Statements
