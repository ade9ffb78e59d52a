pub mod Answered
pub mod FirstGoals
pub mod KnownIsSound
mod Returned
pub mod AfterBoth
pub mod Alone
pub mod ArgumentsOfBoth
pub mod BothSteps
pub mod CallIsSound
pub mod NarrowedSides
pub mod OnSide
pub mod OneSide
pub mod OneSideIsSound
pub mod Others
pub mod RulesAreSound
pub mod SideGoals
pub mod SideSteps
pub mod Sided
