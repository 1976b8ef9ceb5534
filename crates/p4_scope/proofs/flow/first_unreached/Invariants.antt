use Rattle.std.proofs.Common.{◌≡◌, drop, None}
use Rattle.p4_scope.specs.Faults.{first_in}
use Rattle.p4_scope.specs.FlowKeys.{unreached}
use Rattle.p4_scope.proofs.flow.first_unreached.Given as goal

abbrev pub invariant-loop-a : goal.invariant-loop-a
invariant-loop-a l = first_in unreached (drop l.a-index l.actions) l.found ≡ first_in unreached l.actions None
