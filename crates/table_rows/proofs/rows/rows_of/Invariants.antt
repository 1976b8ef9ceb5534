use Rattle.std.proofs.Common.{◌≡◌, take}
use Rattle.table_rows.specs.Rows.{rows_of}
use Rattle.tree_eval.specs.Seen.{seen}
use Rattle.table_rows.proofs.rows.rows_of.Given as goal

abbrev pub invariant-loop-e : goal.invariant-loop-e
invariant-loop-e l = l.rows ≡ rows_of (seen l.sc) l.n (take l.e-index l.es)
