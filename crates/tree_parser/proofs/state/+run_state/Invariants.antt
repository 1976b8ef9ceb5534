use Rattle.std.proofs.Common.{length}
use Rattle.tree_parser.proofs.state.+run_state.Given as goal

abbrev pub decreases-run_state : goal.decreases-run_state
decreases-run_state l = length l.states.now
