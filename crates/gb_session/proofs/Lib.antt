pub mod Adds
pub mod Exists
pub mod Given
pub mod Moved
pub mod Outcomes
pub mod Read
pub mod Whole
pub mod Stages
