pub mod Shown
pub mod Rounds
