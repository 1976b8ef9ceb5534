use Rattle.std.proofs.Common.{◌≡◌, drop, ◌≤◌}
use Rattle.p4_tables.specs.Tables.{lpm_keys}
use Rattle.p4_tables.proofs.listed.lpm_keys.Given as goal

abbrev pub invariant-loop-k : goal.invariant-loop-k
invariant-loop-k l = record {
  told : lpm_keys (drop l.k-index l.ks) l.n ≡ lpm_keys l.ks 0;
  bound : l.n ≤ l.k-index;
}
