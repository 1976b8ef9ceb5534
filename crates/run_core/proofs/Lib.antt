pub mod Runs
pub mod Loaded
pub mod Ready
pub mod Endings
