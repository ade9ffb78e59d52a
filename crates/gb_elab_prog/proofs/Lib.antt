pub mod New
pub mod Constants
pub mod AbstractModules
