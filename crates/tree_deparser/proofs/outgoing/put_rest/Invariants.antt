use Rattle.std.proofs.Common.{◌≡◌, ◌++◌, length}
use Rattle.tree_deparser.proofs.outgoing.put_rest.Given as goal

abbrev pub invariant-loop-bit : goal.invariant-loop-bit
invariant-loop-bit l = l.out ++ l.left ≡ l.fn.out ++ l.fn.left

abbrev pub decreases-loop-bit : goal.decreases-loop-bit
decreases-loop-bit l = length l.left
