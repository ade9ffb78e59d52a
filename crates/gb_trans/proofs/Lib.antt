mod BesideIsSound
mod BoundNames
mod Seats
mod Coupled
mod Killed
mod KillIsSound
mod Reading
mod ReadSteps
pub mod KillRowsAreSound
mod Unread
pub mod Deciding
pub mod DecidedIsSound
pub mod GuardsAreSound
pub mod Shapes
mod Turns
mod UnrollIsSound
mod Decides
mod Unrolls
pub mod Known
pub mod SwapIsSound
pub mod Swapped
pub mod Apart
pub mod ReadPlaces
pub mod Named
pub mod Unwritten
pub mod Within
pub mod Crossing
pub mod Alike
pub mod Placed
pub mod RulesAreSound
mod Swaps
