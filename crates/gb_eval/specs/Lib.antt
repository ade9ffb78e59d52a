pub mod Script
pub mod Findings
pub mod Operators
pub mod Totals
pub mod Known
pub mod Eval
pub mod Meant
