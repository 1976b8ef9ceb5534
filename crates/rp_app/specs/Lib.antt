pub mod Application
pub mod Counting
