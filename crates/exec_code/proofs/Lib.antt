pub mod Equations
pub mod StepRules
