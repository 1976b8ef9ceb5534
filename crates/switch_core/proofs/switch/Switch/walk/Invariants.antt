use Rattle.std.proofs.Common.{◌≡◌, ◌≤◌, ◌-◌, take, drop}
use Rattle.key_table.specs.Table.{keys}
use Rattle.proto_model.specs.SwitchAlarm.{walked_slots}
use Rattle.switch_core.specs.Walks.{walk_of}
use Rattle.switch_core.proofs.switch.Switch.walk.Given as goal

abbrev pub invariant-loop-place : goal.invariant-loop-place
invariant-loop-place l = record {
  start : l.from ≤ l.place;
  walk : walk_of l.self l.going ≡ walked_slots (walk_of l.fn.self l.fn.going) l.fn.self.latest (take (l.place - l.from) (drop l.from (keys l.fn.self.state.slots)));
  latest : l.self.latest ≡ l.fn.self.latest;
}
