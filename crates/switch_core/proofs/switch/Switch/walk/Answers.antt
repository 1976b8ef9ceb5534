use Rattle.std.proofs.Common.{◌-◌, arith, take, drop}
use Rattle.key_table.specs.Table.{keys}
use Rattle.switch_core.proofs.AlarmParts.{can_follow, take_short}
use Rattle.switch_core.proofs.switch.Switch.walk.Goals as goal

pub walk_at-requires-clause-steady : goal.walk_at-requires-clause-steady
walk_at-requires-clause-steady c =
    can_follow (c.args.to - c.args.from) 1 c.args.self.now c.loop-place.self c.args.going.now c.loop-place.going c.args.self.now.latest
    (take (c.loop-place.place - c.args.from) (drop c.args.from (keys c.args.self.now.state.slots))) c.requires.steady c.loop-place.invariant.walk
    (omega (arith, take_short (c.loop-place.place - c.args.from) (drop c.args.from (keys c.args.self.now.state.slots)), c.loop-place-test.true, c.loop-place.auto.place-end, c.loop-place.auto.place, c.loop-place.invariant.start))
