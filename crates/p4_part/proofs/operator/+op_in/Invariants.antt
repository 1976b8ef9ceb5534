use Rattle.std.proofs.Common.{length}
use Rattle.p4_part.proofs.operator.+op_in.Given as goal

abbrev pub decreases-op_in : goal.decreases-op_in
decreases-op_in l = length l.ops.now
