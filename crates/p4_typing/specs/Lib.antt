pub mod Values
pub mod Expressions
pub mod Calls
