pub mod Keysets
pub mod Conditions
pub mod Statements
pub mod Tables
pub mod Parsers
