pub mod Parts
pub mod Among
mod Counted
