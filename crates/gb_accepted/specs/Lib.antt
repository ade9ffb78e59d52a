pub mod Holding
pub mod Scopes
pub mod Examples
