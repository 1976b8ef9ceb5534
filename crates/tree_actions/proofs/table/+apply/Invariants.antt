use Rattle.std.proofs.Common.{length}
use Rattle.tree_actions.proofs.table.+apply.Given as goal

abbrev pub decreases-apply : goal.decreases-apply
decreases-apply l = length l.ls.now
