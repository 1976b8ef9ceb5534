pub mod EpochNotes
pub mod EpochTable
pub mod Endings
