use Rattle.std.proofs.Common.{◌≡◌, drop, []}
use Rattle.p4_scope.specs.Faults.{every}
use Rattle.p4_check.specs.Parsers.{case_}
use Rattle.p4_check.proofs.state.cases.Given as goal

abbrev pub invariant-loop-c : goal.invariant-loop-c
invariant-loop-c l = every (case_ l.names l.ks l.s) (drop l.c-index l.cs) (l.f, l.done) ≡ every (case_ l.names l.ks l.s) l.cs (l.fn.f, [])
