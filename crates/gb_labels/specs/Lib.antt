pub mod Keys
pub mod Reads
pub mod Held
pub mod Memories
pub mod Labels
pub mod Things
pub mod Labelled
