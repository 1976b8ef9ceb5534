pub mod KeyedPlaces
pub mod FirstFrames
pub mod FoundFrames
