use Rattle.std.proofs.Common.{take}
use Rattle.exec_tables.specs.Locals.{AreCalls}
use Rattle.tree_eval.specs.Seen.{seen}
use Rattle.exec_tables.proofs.made.calls_of.Given as goal

abbrev pub invariant-loop-e : goal.invariant-loop-e
invariant-loop-e l = AreCalls (seen l.sc) l.locals (take l.e-index l.es) l.cs
