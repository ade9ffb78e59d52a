pub mod OneProcedure
pub mod Probability
pub mod Globs
pub mod Equalities
pub mod Forms
