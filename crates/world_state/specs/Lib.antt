pub mod Passing
pub mod Waiting
pub mod Nodes
pub mod Turns
pub mod WorldStates
pub mod Acts
pub mod Announcing
pub mod Steps
