pub mod Known
pub mod BothOutcomes
pub mod Call
pub mod OneSide
pub mod Rows
