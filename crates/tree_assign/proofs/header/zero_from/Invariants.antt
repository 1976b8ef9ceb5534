use Rattle.std.proofs.Common.{◌≡◌}
use Rattle.app_meaning.specs.Assigning.{zeroed}
use Rattle.tree_assign.proofs.header.zero_from.Given as goal

abbrev pub invariant-loop-left : goal.invariant-loop-left
invariant-loop-left l = zeroed l.left l.i l.values ≡ zeroed l.fn.count l.fn.first l.fn.values

abbrev pub decreases-loop-left : goal.decreases-loop-left
decreases-loop-left l = l.left
