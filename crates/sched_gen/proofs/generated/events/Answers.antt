use Rattle.std.proofs.Common.{arith, ◌≡◌, ◌++◌, ◌∷◌, [], ◌≤◌}
use Rattle.std.proofs.lemmas.Grind.{common_steps}
use Rattle.sched_gen.specs.Generated.{events_from}
use Rattle.sched_gen.proofs.Events.{events-more, events-done}
use Rattle.sched_gen.proofs.generated.events.Goals as goal

pub loop-left-preserved : goal.loop-left-preserved
loop-left-preserved c =
    let grown : c.push.new.self ≡ c.loop-left.events ++ c.in_ok-event.event ∷ [] = grind (arith, common_steps) in
    record {
      same = rw grown (events-more c.loop-left.events c.loop-left.left c.loop-left.x c.in_ok-event.event c.in_ok-event.next (events_from c.args.count c.args.x) c.loop-left-test.true c.in_ok-event.ensures.value c.loop-left.invariant.same);
      state = c.in_ok-event.ensures.state;
    }

pub returns : goal.returns
returns c =
    let none : c.loop-left.left ≤ 0 = omega (arith, c.loop-left-test.false) in
    events-done c.loop-left.events c.loop-left.left c.loop-left.x (events_from c.args.count c.args.x) none c.loop-left.invariant.same
