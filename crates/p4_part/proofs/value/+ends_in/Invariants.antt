use Rattle.std.proofs.Common.{length}
use Rattle.p4_part.proofs.value.+ends_in.Given as goal

abbrev pub decreases-ends_in : goal.decreases-ends_in
decreases-ends_in l = length l.names.now
