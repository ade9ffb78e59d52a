mod AllKinds
pub mod Digits
mod Firsts
pub mod Nesting
mod Search
pub mod Spans
mod Spelled
