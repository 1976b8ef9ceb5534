use Rattle.std.proofs.Common.{◌≡◌, take}
use Rattle.p4_copy.proofs.expression.exprs_copy.Given as goal

abbrev pub invariant-loop-e : goal.invariant-loop-e
invariant-loop-e l = l.copies ≡ take l.e-index l.es
