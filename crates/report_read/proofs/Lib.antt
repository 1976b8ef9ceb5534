pub mod Cuts
pub mod Spelled
pub mod Again
pub mod Whole
