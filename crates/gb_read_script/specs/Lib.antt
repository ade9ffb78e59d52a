pub mod Goal
pub mod GoalLines
pub mod Line
pub mod Reading
pub mod Words
