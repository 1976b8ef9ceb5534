use Rattle.std.proofs.Common.{length}
use Rattle.tree_eval.proofs.declared.+named_type.Given as goal

abbrev pub decreases-named_type : goal.decreases-named_type
decreases-named_type l = length l.types.now
