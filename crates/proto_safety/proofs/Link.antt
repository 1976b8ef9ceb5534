-- Runs over a link.
pub mod LinkedKept
pub mod LinkedRefusals
pub mod LinkedTold
pub mod LinkedSizes
