pub mod Rows
pub mod Tied
pub mod Steady
pub mod Leading
pub mod Seen
