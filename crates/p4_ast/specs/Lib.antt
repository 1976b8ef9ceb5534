pub mod Bare
pub mod BareStatements
pub mod BareProgram
