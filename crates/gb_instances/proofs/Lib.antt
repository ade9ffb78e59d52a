pub mod Referring
pub mod Layers
pub mod RestrictionSteps
pub mod TypeParts
