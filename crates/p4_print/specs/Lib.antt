pub mod Text
pub mod Shared
pub mod Expressions
pub mod Statements
pub mod Tables
pub mod Programs
