use Rattle.std.proofs.Common.{length}
use Rattle.tree_eval.proofs.declared.+named_constant.Given as goal

abbrev pub decreases-named_constant : goal.decreases-named_constant
decreases-named_constant l = length l.constants.now
