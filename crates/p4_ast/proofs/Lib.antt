pub mod Folds
pub mod Induction
