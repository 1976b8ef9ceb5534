use Rattle.std.proofs.Common.{length}
use Rattle.tree_actions.proofs.run.+run_locals.Given as goal

abbrev pub decreases-run_locals : goal.decreases-run_locals
decreases-run_locals l = length l.ls.now
