pub mod Headed
pub mod Operators
pub mod TypedForms
pub mod TypedGoals
pub mod Marked
pub mod SpeltTypes
pub mod SpeltTrees
pub mod Changed
pub mod Opened
pub mod Spelling
pub mod SpeltStatements
pub mod NamedGoals
pub mod SpeltForms
pub mod Programs
pub mod Rows
pub mod Samplings
pub mod Sequents
pub mod Conclusions
pub mod Uses
pub mod Relational
pub mod Chances
pub mod Probabilities
pub mod AllValues
pub mod Loops
pub mod SpeltCalls
pub mod BothCalls
pub mod AbstractCalls
pub mod Events
pub mod Rewriting
pub mod Variants
pub mod Transformed
pub mod Inlined
pub mod Reached
pub mod Sim
pub mod Beside
pub mod Transformations
pub mod Applied
mod Later
mod Instances
mod FoundInScopes
mod Paths
mod NamesBySorts
mod NamesOfTokens
mod ReadTrees
mod Given
mod Types
mod FoundInForms
mod Asked
mod Interfaces
mod KnownProcedures
mod NamedModules
mod Spelled
mod MadeForms
mod Recalled
mod Leaves
mod Constants
mod Weighed
mod Equations
mod Quantified
mod Judged
mod Forms
mod MadeTrees
mod Derived
mod PartsBySorts
mod Full
mod OfForms
mod Trees
mod Tuples
mod Calls
mod Statements
mod Settings
mod Members
mod Entries
mod Lemmas
mod Occurring
mod PutNames
mod GivenNames
mod Used
mod BodyRules
mod Rules
mod Stages
mod Grounds
mod Declared
mod Steps
mod Commands
mod Histories
mod ReadCommands
mod Assembled
