mod Exists
pub mod Refused
mod Unique
pub mod Answered
pub mod Combined
pub mod Cuts
pub mod Declared
pub mod InProofs
pub mod Named
pub mod Passed
pub mod Read
pub mod Steps
