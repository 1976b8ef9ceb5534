pub mod Declaring
pub mod Scopes
pub mod Variables
