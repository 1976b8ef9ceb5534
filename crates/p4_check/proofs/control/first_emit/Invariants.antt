use Rattle.std.proofs.Common.{◌≡◌, drop, None}
use Rattle.p4_scope.specs.Faults.{first_in}
use Rattle.p4_check.specs.Programs.{emit}
use Rattle.p4_check.proofs.control.first_emit.Given as goal

abbrev pub invariant-loop-e : goal.invariant-loop-e
invariant-loop-e l = first_in (emit l.s) (drop l.e-index l.es) l.f ≡ first_in (emit l.s) l.es None
