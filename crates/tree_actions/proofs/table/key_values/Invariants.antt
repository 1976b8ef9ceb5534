use Rattle.std.proofs.Common.{◌≡◌, take}
use Rattle.app_meaning.specs.Actions.{key_values}
use Rattle.tree_eval.specs.Seen.{seen}
use Rattle.tree_actions.proofs.table.key_values.Given as goal

abbrev pub invariant-loop-k : goal.invariant-loop-k
invariant-loop-k l = l.vs ≡ key_values (take l.k-index l.keys) (seen l.sc) l.values
