pub mod list
pub mod shared
