pub mod Equations
mod Cuts
