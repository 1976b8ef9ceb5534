use Rattle.std.proofs.Common.{◌≡◌, ◌++◌, length, take}
use Rattle.proto_model.specs.Lines.{send_lines}
use Rattle.run_history.specs.Shown.{shown}
use Rattle.world_state.proofs.sending.send.Given as goal

abbrev pub invariant-loop-m : goal.invariant-loop-m
invariant-loop-m l = record {
  sent : l.frames ≡ l.fn.frames ++ take l.m-index l.sent;
  shows : l.lines ≡ l.fn.lines ++ shown (send_lines l.event (length l.fn.frames) (take l.m-index l.sent));
}
