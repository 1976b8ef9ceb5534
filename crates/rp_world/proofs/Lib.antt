pub mod FromSetup
pub mod Opening
pub mod Calls
pub mod Ending
