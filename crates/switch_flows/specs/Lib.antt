pub mod Places
pub mod States
pub mod Kept
pub mod Fronts
