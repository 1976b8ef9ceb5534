-- Clocks.
pub mod ClockSums
pub mod Clocks
