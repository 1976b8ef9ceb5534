use Rattle.std.proofs.Common.{length}
use Rattle.rp_base.proofs.mem_inputs.+sure_content.Given as goal

abbrev pub decreases-sure_content : goal.decreases-sure_content
decreases-sure_content l = length l.contents.now
