pub mod Chances
pub mod First
pub mod Views
pub mod Goals
pub mod Told
