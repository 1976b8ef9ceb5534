pub mod Loops
pub mod Paths
pub mod Names
