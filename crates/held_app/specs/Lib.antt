pub mod Once
pub mod Promised
pub mod Held
