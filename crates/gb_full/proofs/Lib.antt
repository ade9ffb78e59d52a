pub mod Full
pub mod LossSteps
pub mod Operators
