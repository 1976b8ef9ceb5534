pub mod Rows
pub mod States
pub mod Steady
pub mod Walks
