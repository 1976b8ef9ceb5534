-- How a fact is carried over a run: event by event, flow by flow, with first sendings.
pub mod Acts
pub mod Induction
pub mod EventCounts
pub mod RunSteps
pub mod RunClocks
pub mod AlarmInduction
pub mod FlowInduction
pub mod FirstsInduction
pub mod FlowMoves
pub mod FlowSteps
pub mod FlowAlarm
pub mod OtherFlows
