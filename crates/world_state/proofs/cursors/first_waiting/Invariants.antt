use Rattle.std.proofs.Common.{◌-◌, length}
use Rattle.world_state.specs.Waiting.{NoneWaits}
use Rattle.world_state.proofs.cursors.first_waiting.Given as goal

abbrev pub invariant-loop-at : goal.invariant-loop-at
invariant-loop-at l = NoneWaits l.frames l.passed l.to l.at

abbrev pub decreases-loop-at : goal.decreases-loop-at
decreases-loop-at l = length l.frames - l.at
