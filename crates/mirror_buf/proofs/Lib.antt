pub mod Listing
pub mod Greatest
pub mod Standing
pub mod Taking
pub mod Naming
pub mod Members
