pub mod Kinds
pub mod LeftOut
pub mod Level
pub mod Lexeme
pub mod Limits
pub mod Numbers
pub mod Places
