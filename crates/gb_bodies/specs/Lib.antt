pub mod Case
pub mod Conseq
pub mod If
pub mod Proc
pub mod Rows
pub mod Seq
pub mod Skip
pub mod Wp
