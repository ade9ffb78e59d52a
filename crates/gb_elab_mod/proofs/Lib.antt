pub mod OtherLocals
pub mod Found
pub mod LastProcedures
pub mod Betweens
pub mod NewModules
pub mod GivenSteps
