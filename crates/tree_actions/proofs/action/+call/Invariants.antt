use Rattle.std.proofs.Common.{length}
use Rattle.tree_actions.proofs.action.+call.Given as goal

abbrev pub decreases-call : goal.decreases-call
decreases-call l = length l.ls.now
