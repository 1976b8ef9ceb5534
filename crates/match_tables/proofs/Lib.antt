pub mod Spelled
pub mod Halves
pub mod Winners
pub mod Found
pub mod Looked
pub mod Inserted
pub mod Plain
