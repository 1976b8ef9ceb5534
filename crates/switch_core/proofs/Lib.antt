pub mod AlarmParts
pub mod Keeping
pub mod Over
pub mod Steady
pub mod SteadyAlarm
pub mod SteadyStep
pub mod Turns
pub mod Walks
