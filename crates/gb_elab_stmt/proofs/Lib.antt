pub mod Arms
pub mod Chains
pub mod Gathered
pub mod Next
pub mod Stated
