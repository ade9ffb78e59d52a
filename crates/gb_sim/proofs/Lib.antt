mod Agreeing
pub mod Answered
mod Covered
mod NeedSteps
mod ReadSteps
mod Related
mod Returned
pub mod SimIsSound
mod Slices
mod Typed
mod Writing
mod Zipped
mod AfterSim
