pub mod AppWorld
pub mod Begun
