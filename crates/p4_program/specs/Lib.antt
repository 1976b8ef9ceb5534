pub mod Controls
pub mod Blocks
pub mod Declarations
