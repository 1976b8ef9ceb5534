pub mod Applying
pub mod Locals
pub mod Ready
