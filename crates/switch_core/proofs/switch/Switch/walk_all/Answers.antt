use Rattle.std.proofs.Common.{◌-◌, ◌∙◌, ap, arith, take, drop, refl}
use Rattle.key_table.specs.Table.{keys}
use Rattle.proto_model.specs.SwitchAlarm.{walk_order, walked_slots}
use Rattle.switch_core.specs.Walks.{walk_of}
use Rattle.switch_core.proofs.AlarmParts.{can_few, can_follow, ok_same, take_short, walk_around}
use Rattle.switch_core.proofs.switch.Switch.walk_all.Goals as goal

pub walk-requires-2-clause-steady : goal.walk-requires-2-clause-steady
walk-requires-2-clause-steady c =
    can_follow 1024 (c.walk_start-start.result - 0) c.args.self.now c.walk.new.self c.args.going.now c.walk.new.going c.args.self.now.latest
    (take (c.slot_count-end.result - c.walk_start-start.result) (drop c.walk_start-start.result (keys c.args.self.now.state.slots))) c.requires.steady c.in_ok-walk.ensures.walk
    (omega (arith, take_short (c.slot_count-end.result - c.walk_start-start.result) (drop c.walk_start-start.result (keys c.args.self.now.state.slots)), c.slot_count-end.ensures, c.walk_start-start.ensures.within, can_few 1024 c.args.self.now c.requires.steady))

pub returns-clause-walk : goal.returns-clause-walk
returns-clause-walk c =
    ok_same c.walk-2.result _ _ _
    (ap (λ n. walked_slots (walk_of c.walk.new.self c.walk.new.going) n (take (c.walk_start-start.result - 0) (drop 0 (keys c.walk.new.self.state.slots)))) c.in_ok-walk.ensures.latest
    ∙ walk_around (walk_of c.args.self.now c.args.going.now) c.args.self.now.latest c.walk_start-start.result c.slot_count-end.result (walk_of c.walk.new.self c.walk.new.going) _
    (walk_order c.args.self.now.state.walked (keys c.args.self.now.state.slots))
    (omega (arith, c.slot_count-end.ensures, c.walk_start-start.ensures.within)) c.slot_count-end.ensures c.walk_start-start.ensures.order c.in_ok-walk.ensures.walk refl)
    c.walk-2.ensures.walk
