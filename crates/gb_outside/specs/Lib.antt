pub mod Counts
pub mod Calls
pub mod HeldBytes
pub mod InMemory
pub mod Whole
pub mod Appended
