use Rattle.std.proofs.Common.{length}
use Rattle.tree_eval.proofs.declared.+named_register.Given as goal

abbrev pub decreases-named_register : goal.decreases-named_register
decreases-named_register l = length l.registers.now
