use Rattle.std.proofs.Common.{◌≡◌, drop}
use Rattle.std.specs.List.{list_any}
use Rattle.p4_scope.specs.FlowKeys.{action_uses}
use Rattle.p4_tables.proofs.table.any_uses.Given as goal

abbrev pub invariant-loop-n : goal.invariant-loop-n
invariant-loop-n l = list_any (action_uses l.s.actions) (drop l.n-index l.ns) ≡ list_any (action_uses l.s.actions) l.ns
