use Rattle.std.proofs.Common.{◌≡◌, length}
use Rattle.rp_rewrite.specs.Sources.{closed}
use Rattle.rp_rewrite.proofs.walk.closed.Given as goal

abbrev pub invariant-loop-before : goal.invariant-loop-before
invariant-loop-before l = closed l.outer l.made ≡ closed l.fn.outer l.fn.last

abbrev pub decreases-loop-before : goal.decreases-loop-before
decreases-loop-before l = length l.outer
