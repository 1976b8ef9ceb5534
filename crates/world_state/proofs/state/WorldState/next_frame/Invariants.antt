use Rattle.std.proofs.Common.{◌≡◌, drop}
use Rattle.proto_model.specs.WorldStep.{next_from}
use Rattle.world_state.specs.WorldStates.{world_of}
use Rattle.world_state.proofs.state.WorldState.next_frame.Given as goal

abbrev pub invariant-loop-i : goal.invariant-loop-i
invariant-loop-i l = next_from (world_of l.self) 0 l.self.frames ≡ next_from (world_of l.self) l.i (drop l.i l.self.frames)
