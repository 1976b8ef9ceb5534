pub mod Chunks
pub mod Gathered
pub mod Counts
pub mod Lists
pub mod Steps
