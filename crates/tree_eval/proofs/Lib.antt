pub mod Evals
