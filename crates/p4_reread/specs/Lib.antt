pub mod Lexemes
pub mod Again
pub mod Parsed
