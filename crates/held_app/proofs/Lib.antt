pub mod Rewritten
pub mod Sources
