pub mod Lists
pub mod MadeLists
pub mod RaiseSteps
pub mod ChangeSteps
pub mod SideSteps
pub mod ClashSteps
