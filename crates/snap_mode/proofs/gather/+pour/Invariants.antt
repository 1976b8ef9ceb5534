use Rattle.std.proofs.Common.{length}
use Rattle.snap_mode.proofs.gather.+pour.Given as goal

abbrev pub decreases-pour : goal.decreases-pour
decreases-pour l = length l.parts.now
