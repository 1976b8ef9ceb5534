use Rattle.std.proofs.Common.{◌≡◌, drop}
use Rattle.p4_scope.specs.FlowKeys.{reach_listed}
use Rattle.p4_scope.proofs.flow.reach_listed.Given as goal

abbrev pub invariant-loop-t : goal.invariant-loop-t
invariant-loop-t l = reach_listed (drop l.t-index l.tables) l.actions ≡ reach_listed l.tables l.fn.actions
