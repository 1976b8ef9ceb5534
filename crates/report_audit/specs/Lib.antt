pub mod Rising
pub mod Notes
pub mod Verdict
