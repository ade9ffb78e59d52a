pub mod Entries
pub mod Counted
pub mod Labels
pub mod Linked
pub mod Numbers
pub mod Summands
