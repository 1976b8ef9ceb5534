pub mod Figures
pub mod Fits
pub mod Steps
