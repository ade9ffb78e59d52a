pub mod Fresh
pub mod Taken
pub mod Renamed
pub mod Expanded
pub mod Inlined
pub mod Asking
pub mod Proved
pub mod Rows
