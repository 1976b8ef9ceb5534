pub mod Index
pub mod Faults
pub mod Scopes
pub mod Types
pub mod Paths
pub mod FlowKeys
pub mod Params
