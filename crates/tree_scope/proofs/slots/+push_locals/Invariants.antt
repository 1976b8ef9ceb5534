use Rattle.std.proofs.Common.{length}
use Rattle.tree_scope.proofs.slots.+push_locals.Given as goal

abbrev pub decreases-push_locals : goal.decreases-push_locals
decreases-push_locals l = length l.ls.now
