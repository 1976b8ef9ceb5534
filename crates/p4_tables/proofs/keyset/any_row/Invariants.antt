use Rattle.std.proofs.Common.{◌≡◌, drop, []}
use Rattle.p4_tables.specs.Entries.{any_row}
use Rattle.p4_tables.proofs.keyset.any_row.Given as goal

abbrev pub invariant-loop-key : goal.invariant-loop-key
invariant-loop-key l = any_row (drop l.key-index l.ks) l.row ≡ any_row l.ks []
