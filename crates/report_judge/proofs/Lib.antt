pub mod Feeding
pub mod Keys
pub mod Saying
pub mod StrictDrops
pub mod ShortOutputs
pub mod RunShown
