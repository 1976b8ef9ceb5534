pub mod Gatherings
pub mod Rows
pub mod Stores
