use Rattle.world_state.specs.Waiting.{IsLeast}
use Rattle.world_state.specs.WorldStates.{world_of}
use Rattle.world_state.proofs.state.WorldState.first_place.Given as goal

abbrev pub invariant-loop-k : goal.invariant-loop-k
invariant-loop-k l = IsLeast (world_of l.self) l.self.cursors l.k l.least
