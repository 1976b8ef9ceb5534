pub mod Fits
pub mod Ran
pub mod Sources
