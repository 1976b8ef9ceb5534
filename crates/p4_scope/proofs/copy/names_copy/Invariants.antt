use Rattle.std.proofs.Common.{◌≡◌, take}
use Rattle.p4_scope.proofs.copy.names_copy.Given as goal

abbrev pub invariant-loop-x : goal.invariant-loop-x
invariant-loop-x l = l.names ≡ take l.x-index l.xs
