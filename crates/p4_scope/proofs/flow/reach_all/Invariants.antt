use Rattle.std.proofs.Common.{◌≡◌, drop}
use Rattle.p4_scope.specs.FlowKeys.{reach_all}
use Rattle.p4_scope.proofs.flow.reach_all.Given as goal

abbrev pub invariant-loop-n : goal.invariant-loop-n
invariant-loop-n l = reach_all (drop l.n-index l.ns) l.actions ≡ reach_all l.ns l.fn.actions
