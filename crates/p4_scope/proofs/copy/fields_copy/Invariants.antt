use Rattle.std.proofs.Common.{◌≡◌, take}
use Rattle.p4_scope.proofs.copy.fields_copy.Given as goal

abbrev pub invariant-loop-f : goal.invariant-loop-f
invariant-loop-f l = l.fields ≡ take l.f-index l.fs
