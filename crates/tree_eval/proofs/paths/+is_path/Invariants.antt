use Rattle.std.proofs.Common.{length}
use Rattle.tree_eval.proofs.paths.+is_path.Given as goal

abbrev pub decreases-is_path : goal.decreases-is_path
decreases-is_path l = length l.path.now
