pub mod Sums
pub mod Stated
