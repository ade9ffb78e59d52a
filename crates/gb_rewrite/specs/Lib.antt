pub mod Rewritten
pub mod Equations
pub mod Events
pub mod Unfolded
pub mod Rewriting
