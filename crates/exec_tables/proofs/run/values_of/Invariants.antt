use Rattle.std.proofs.Common.{◌≡◌, take}
use Rattle.exec_tables.specs.Applying.{code_values}
use Rattle.exec_tables.proofs.run.values_of.Given as goal

abbrev pub invariant-loop-c : goal.invariant-loop-c
invariant-loop-c l = l.vs ≡ code_values (take l.c-index l.cs) l.values
