use Rattle.std.proofs.Common.{take}
use Rattle.exec_tables.specs.Locals.{AreLocals}
use Rattle.tree_eval.specs.Seen.{seen}
use Rattle.exec_tables.proofs.made.each_of.Given as goal

abbrev pub invariant-loop-l : goal.invariant-loop-l
invariant-loop-l l = AreLocals (seen l.sc) l.locals (take l.l-index l.locals) l.xs
