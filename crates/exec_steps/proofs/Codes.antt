-- The equations of expressions and statements, and of their code.
use Rattle.app_meaning.proofs.Equations.{evals}
pub use Rattle.app_meaning.proofs.Equations.{runs}
pub use Rattle.tree_run.proofs.Walks.{block_is, if_is}
use Rattle.exec_code.proofs.Equations.{codes}
pub use Rattle.exec_code.proofs.StepRules.{step_rules}

pub ruleset steps = (evals, codes)
