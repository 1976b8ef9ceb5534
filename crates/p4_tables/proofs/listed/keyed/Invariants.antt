use Rattle.std.proofs.Common.{◌≡◌, drop}
use Rattle.p4_tables.specs.Tables.{keyed, no_keys}
use Rattle.p4_tables.proofs.listed.keyed.Given as goal

abbrev pub invariant-loop-k : goal.invariant-loop-k
invariant-loop-k l = keyed (drop l.k-index l.ks) l.s l.done ≡ keyed l.ks l.s no_keys
