use Rattle.std.proofs.Common.{◌∙◌, sym}
use Rattle.world_state.specs.WorldStates.{world_of}
use Rattle.world_state.proofs.WaitingKept.{from_start}
use Rattle.world_state.proofs.FrameTests.{next_there, next_down, next_passed}
use Rattle.world_state.proofs.state.WorldState.next_frame.Goals as goal
use Rattle.world_state.proofs.state.WorldState.next_frame.Goals.{else-not-has-via-then-not-has+else-runs, else-not-has-via-else-not-has}

pub loop-i-init : goal.loop-i-init
loop-i-init c = from_start (world_of c.args.self.now) c.first_place-i.result c.args.self.now.frames c.first_place-i.ensures

pub returns-then-runs : goal.returns-then-runs
returns-then-runs c =
    sym (c.loop-i.invariant
    ∙ next_there (world_of c.args.self.now) c.loop-i.i c.args.self.now.frames c.in_ok-msg.msg c.to.result c.in_ok-msg.ensures c.to.ensures c.if-not-has.ensures c.if-runs.ensures)

pub loop-i-preserved : goal.loop-i-preserved
loop-i-preserved c = elim c.else-not-has.branch [
  | else-not-has-via-then-not-has+else-runs w ↦ c.loop-i.invariant ∙ next_down (world_of c.args.self.now) c.loop-i.i c.args.self.now.frames w.to.result w.to.ensures w.if-not-has.ensures w.if-runs.ensures
  | else-not-has-via-else-not-has w ↦ c.loop-i.invariant ∙ next_passed (world_of c.args.self.now) c.loop-i.i c.args.self.now.frames w.if-not-has.ensures
]
