pub mod Frames
pub mod SentFrames
pub mod FirstFrames
