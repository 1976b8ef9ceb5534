pub mod Tying
pub mod Growing
pub mod Prepared
