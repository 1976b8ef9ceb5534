use Rattle.std.proofs.Common.{◌≡◌, drop}
use Rattle.std.specs.List.{list_any}
use Rattle.p4_scope.specs.Types.{has_header}
use Rattle.p4_scope.proofs.record.any_header.Given as goal

abbrev pub invariant-loop-k : goal.invariant-loop-k
invariant-loop-k l = list_any (has_header l.s) (drop l.k-index l.kinds) ≡ list_any (has_header l.s) l.kinds
