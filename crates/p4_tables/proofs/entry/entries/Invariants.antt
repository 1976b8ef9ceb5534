use Rattle.std.proofs.Common.{◌≡◌, drop, [], None}
use Rattle.p4_tables.specs.Tables.{entries}
use Rattle.p4_tables.proofs.entry.entries.Given as goal

abbrev pub invariant-loop-e : goal.invariant-loop-e
invariant-loop-e l = entries l.names l.ks (drop l.e-index l.es) l.s l.rows (l.f, l.done) ≡ entries l.names l.ks l.es l.s [] (None, [])
