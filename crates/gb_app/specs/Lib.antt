pub mod Words
pub mod Status
pub mod Report
pub mod Reply
pub mod Generated
pub mod Checked
pub mod Screens
pub mod Typing
