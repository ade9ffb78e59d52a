pub mod Alike
pub mod Valid
pub mod Labels
pub mod Simple
pub mod Reading
pub mod Fits
pub mod Closing
pub mod Ready
