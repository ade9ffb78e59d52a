pub mod Layers
pub mod Noted
pub mod Marks
pub mod Products
pub mod Tables
mod Equations
mod Implied
pub mod Places
mod Once
pub mod Forms
pub mod Rows
mod Reading
mod Narrowed
mod Settled
mod Searching
mod Answering
mod Assuming
pub mod Among
mod Decisions
pub mod Deciding
