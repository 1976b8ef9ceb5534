pub mod Pieces
pub mod Accepted
