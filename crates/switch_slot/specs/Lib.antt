pub mod Leases
pub mod Rings
pub mod Rounds
pub mod Slots
