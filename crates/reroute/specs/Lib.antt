pub mod Routes
pub mod Worlds
