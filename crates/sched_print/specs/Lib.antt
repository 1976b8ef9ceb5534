pub mod Text
pub mod Again
