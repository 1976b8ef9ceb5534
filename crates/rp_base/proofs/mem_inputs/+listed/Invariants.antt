use Rattle.std.proofs.Common.{length}
use Rattle.rp_base.proofs.mem_inputs.+listed.Given as goal

abbrev pub decreases-listed : goal.decreases-listed
decreases-listed l = length l.contents.now
