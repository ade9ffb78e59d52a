pub mod Call
pub mod LastCall
pub mod Outcomes
pub mod Written
