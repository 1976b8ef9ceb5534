use Rattle.std.proofs.Common.{◌≡◌}
use Rattle.world_state.specs.Waiting.{AreCursors}
use Rattle.world_state.proofs.state.WorldState.settle.Given as goal

abbrev pub invariant-loop-k : goal.invariant-loop-k
invariant-loop-k l = record {
  same : l.self ≡ record l.fn.self { cursors = l.self.cursors };
  cursors : AreCursors l.fn.self.frames l.fn.self.passed l.self.cursors;
}
