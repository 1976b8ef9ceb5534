pub mod Words
pub mod Values
pub mod Forms
pub mod Reading
pub mod Printed
pub mod Whole
