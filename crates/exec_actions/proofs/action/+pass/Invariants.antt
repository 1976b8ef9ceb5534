use Rattle.std.proofs.Common.{length}
use Rattle.exec_actions.proofs.action.+pass.Given as goal

abbrev pub decreases-pass : goal.decreases-pass
decreases-pass l = length l.params.now
