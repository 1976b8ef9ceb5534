pub mod Rows
pub mod Ties
pub mod Nodes
pub mod Sights
pub mod Spots
pub mod Sound
