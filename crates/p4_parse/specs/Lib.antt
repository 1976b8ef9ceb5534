pub mod Parsing
pub mod ByGrammar
