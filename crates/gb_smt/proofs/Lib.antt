pub mod Splits
pub mod Layers
pub mod Uses
pub mod Sizes
mod Scripts
pub mod Parts
pub mod Findings
pub mod Trials
pub mod Counting
mod Different
mod Answered
mod Values
pub mod Meant
mod Outcomes
pub mod ByEquality
pub mod Fronts
