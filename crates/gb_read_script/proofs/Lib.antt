pub mod Firsts
mod GoalOutcomes
mod GoalNumbers
mod GoalSorted
mod GoalUnique
pub mod Lines
mod Outcomes
mod Reasons
pub mod Refusals
pub mod Trees
mod Unique
pub mod Walk
mod Words
