pub mod Causes
pub mod Words
pub mod Header
pub mod EventForms
pub mod Reading
pub mod Ready
