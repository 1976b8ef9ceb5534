-- What frames carry and answer, and where entries come from.
pub mod FramesGrow
pub mod EventFrames
pub mod FramesCarry
pub mod StoreLoads
pub mod SwitchLoads
pub mod WorldReplies
pub mod StoreReplies
pub mod FlowReplies
pub mod StoreOutputs
pub mod WorldOutputs
pub mod WorldOrigins
pub mod WorldNonces
