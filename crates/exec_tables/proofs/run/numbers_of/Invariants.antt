use Rattle.std.proofs.Common.{◌≡◌, take}
use Rattle.exec_tables.specs.Applying.{code_values}
use Rattle.table_rows.specs.Rows.{numbers}
use Rattle.exec_tables.proofs.run.numbers_of.Given as goal

abbrev pub invariant-loop-c : goal.invariant-loop-c
invariant-loop-c l = l.ns ≡ numbers (code_values (take l.c-index l.cs) l.values)
