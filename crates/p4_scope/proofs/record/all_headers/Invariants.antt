use Rattle.std.proofs.Common.{◌≡◌, drop}
use Rattle.std.specs.List.{list_all}
use Rattle.p4_scope.specs.Types.{is_header}
use Rattle.p4_scope.proofs.record.all_headers.Given as goal

abbrev pub invariant-loop-k : goal.invariant-loop-k
invariant-loop-k l = list_all is_header (drop l.k-index l.kinds) ≡ list_all is_header l.kinds
