pub mod Cuts
pub mod Fronts
pub mod Behind
pub mod EventsReady
pub mod Accepted
