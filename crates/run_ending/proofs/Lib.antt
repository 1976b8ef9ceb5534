pub mod EpochMaps
pub mod GrantsOf
pub mod EpochsNoted
pub mod EpochLines
pub mod Flows
pub mod ClosingShown
