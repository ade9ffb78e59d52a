pub mod Claims
pub mod Sorts
pub mod Spelling
pub mod Language
