pub mod Same
pub mod Places
pub mod Gathered
pub mod Passed
pub mod Taken
pub mod Steps
