use Rattle.std.proofs.Common.{◌≡◌, drop, [], None}
use Rattle.p4_scope.specs.Faults.{every}
use Rattle.p4_check.specs.Parsers.{state_step}
use Rattle.p4_check.proofs.state.steps.Given as goal

abbrev pub invariant-loop-x : goal.invariant-loop-x
invariant-loop-x l = every (state_step l.s) (drop l.x-index l.xs) (l.f, l.done) ≡ every (state_step l.s) l.xs (None, [])
