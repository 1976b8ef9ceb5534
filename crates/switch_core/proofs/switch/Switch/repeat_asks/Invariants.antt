use Rattle.std.proofs.Common.{◌≡◌, ◌++◌, take}
use Rattle.proto_data.specs.declared.limits.TheConstants.{MESSAGES}
use Rattle.proto_model.specs.SwitchAlarm.{repeated_asks}
use Rattle.switch_core.proofs.switch.Switch.repeat_asks.Given as goal

abbrev pub invariant-loop-place : goal.invariant-loop-place
invariant-loop-place l = record {
  sent : l.going.sent ≡ take MESSAGES (l.fn.going.sent ++ repeated_asks l.self.state l.self.latest (take l.place l.self.state.slots));
  begun : l.going.begun ≡ l.fn.going.begun;
}
