-- Runs in snapshot mode.
pub mod SnapAges
pub mod SnapRounds
pub mod SnapRun
pub mod SnapShown
pub mod SnapSlots
pub mod SnapStep
pub mod KeptFronts
pub mod LossNow
pub mod LossRun
pub mod AgesRun
pub mod WorldSnaps
