use Rattle.std.proofs.Common.{◌≡◌, drop}
use Rattle.std.specs.List.{list_any}
use Rattle.p4_tables.specs.Tables.{is_ternary}
use Rattle.p4_tables.proofs.listed.any_ternary.Given as goal

abbrev pub invariant-loop-k : goal.invariant-loop-k
invariant-loop-k l = list_any (λ k. is_ternary k.matching) (drop l.k-index l.ks) ≡ list_any (λ k. is_ternary k.matching) l.ks
