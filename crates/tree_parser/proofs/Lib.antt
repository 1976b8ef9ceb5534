pub mod Fields
pub mod Taken
pub mod Turns
