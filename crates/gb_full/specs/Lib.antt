pub mod Loss
pub mod Lossless
