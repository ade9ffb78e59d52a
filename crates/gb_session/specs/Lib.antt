pub mod History
pub mod Kept
pub mod Commands
pub mod Screen
