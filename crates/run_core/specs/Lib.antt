pub mod Commands
pub mod Seen
pub mod Outcomes
pub mod Answers
pub mod Runs
