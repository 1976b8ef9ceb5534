pub mod Parsers
pub mod Programs
pub mod Rewriting
pub mod Checking
