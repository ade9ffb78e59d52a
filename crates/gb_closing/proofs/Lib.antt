pub mod Parts
pub mod Marks
pub mod Places
pub mod Behind
