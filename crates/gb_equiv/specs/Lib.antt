pub mod OneSide
pub mod Rows
pub mod Transitivity
pub mod Drawn
pub mod Rnd
pub mod Symmetry
