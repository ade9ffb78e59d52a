pub mod LoopSteps
pub mod NamedSteps
