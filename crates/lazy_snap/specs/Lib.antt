pub mod Snap
pub mod Picking
