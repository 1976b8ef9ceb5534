-- How large what is kept and sent is.
pub mod Limits
pub mod AlarmSizes
pub mod NodeSizes
pub mod SizesFit
pub mod SizesOf
pub mod SizesUp
pub mod StoreSizes
pub mod SwitchSizes
pub mod WorldSizes
