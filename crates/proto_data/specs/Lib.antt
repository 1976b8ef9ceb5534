pub mod MessageFits
pub mod Carrying
