pub mod Hoare
pub mod Rnd
pub mod ChanceRows
pub mod ByEquiv
pub mod ByEvents
pub mod ByPhoare
pub mod Rows
pub mod Started
