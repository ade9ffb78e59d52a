pub mod Loops
pub mod Variants
pub mod Operand
pub mod LastLoop
pub mod Read
pub mod While
