pub mod Numbers
pub mod Forms
pub mod Linear
pub mod Closing
