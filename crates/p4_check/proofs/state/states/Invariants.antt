use Rattle.std.proofs.Common.{◌≡◌, drop, [], None}
use Rattle.p4_scope.specs.Faults.{every}
use Rattle.p4_check.specs.Parsers.{state}
use Rattle.p4_check.proofs.state.states.Given as goal

abbrev pub invariant-loop-t : goal.invariant-loop-t
invariant-loop-t l = every (state l.names l.s) (drop l.t-index l.ts) (l.f, l.done) ≡ every (state l.names l.s) l.ts (None, [])
