pub mod Footprint
pub mod Lossless
pub mod Fits
pub mod Put
pub mod Instance
