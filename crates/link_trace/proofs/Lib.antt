pub mod Told
pub mod Reported
pub mod Sent
