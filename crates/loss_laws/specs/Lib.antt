pub mod BoundedLines
pub mod ChangedRules
pub mod NeededPremises
pub mod NeededRules
pub mod WorkedLines
