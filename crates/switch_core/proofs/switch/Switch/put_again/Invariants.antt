use Rattle.std.proofs.Common.{◌≡◌, ◌++◌, map}
use Rattle.proto_model.specs.SwitchAlarm.{resent_put}
use Rattle.switch_core.proofs.switch.Switch.put_again.Given as goal

abbrev pub invariant-loop-copy : goal.invariant-loop-copy
invariant-loop-copy l = l.going ≡ record { sent = l.fn.going.sent ++ map (resent_put l.self.state) l.yielded; begun = l.fn.going.begun }
