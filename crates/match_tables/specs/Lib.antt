pub mod Winning
pub mod Placing
pub mod Standing
pub mod Ordered
