mod Taking
mod FrameLengths
mod Sends
pub mod NodeLists
pub mod PassedFrames
pub mod WaitingKept
pub mod Settled
pub mod WorldGoes
pub mod RunGoes
pub mod RunAfter
pub mod WorldTests
pub mod Sendables
pub mod FrameTests
pub mod Announced
pub mod Told
pub mod Opened
pub mod LastRunning
pub mod HandAfter
