use Rattle.std.proofs.Common.{◌≡◌, take}
use Rattle.app_meaning.specs.Statements.{values_of}
use Rattle.tree_eval.specs.Seen.{seen}
use Rattle.tree_run.proofs.values.values_of.Given as goal

abbrev pub invariant-loop-e : goal.invariant-loop-e
invariant-loop-e l = l.vs ≡ values_of (take l.e-index l.es) (seen l.sc) l.values
