mod LastDot
pub mod ReadTypes
pub mod Answers
pub mod Nodes
pub mod Parts
pub mod Spellings
pub mod Expressions
pub mod Applied
pub mod KnownModules
