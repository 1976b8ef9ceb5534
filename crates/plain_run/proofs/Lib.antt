pub mod Rows
pub mod Flows
