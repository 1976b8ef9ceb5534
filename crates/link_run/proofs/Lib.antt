pub mod Going
pub mod FoundNodes
pub mod Pumped
