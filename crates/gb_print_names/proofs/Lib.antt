pub mod OpenSteps
pub mod Primes
pub mod Lists
pub mod LocalSteps
pub mod Differing
