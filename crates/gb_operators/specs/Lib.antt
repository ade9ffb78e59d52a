pub mod Kinds
pub mod Operators
pub mod Open
pub mod Literals
pub mod Drawn
pub mod Domain
pub mod Constants
pub mod Rules
