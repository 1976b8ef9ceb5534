pub mod Letters
pub mod Numbers
pub mod Spelling
pub mod Words
pub mod Signs
pub mod Lexing
