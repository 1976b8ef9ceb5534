use Rattle.std.proofs.Common.{length}
use Rattle.world_state.proofs.contents.+last_running.Given as goal

abbrev pub decreases-last_running : goal.decreases-last_running
decreases-last_running l = length l.nodes.now
