use Rattle.std.proofs.Common.{◌≡◌, take}
use Rattle.tree_scope.proofs.types.copies.Given as goal

abbrev pub invariant-loop-s : goal.invariant-loop-s
invariant-loop-s l = l.made ≡ take l.s-index l.slots
