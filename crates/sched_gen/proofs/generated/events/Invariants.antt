use Rattle.std.proofs.Common.{◌≡◌, ◌++◌, ◌<◌}
use Rattle.sched_gen.specs.Generated.{events_from}
use Rattle.sched_gen.proofs.generated.events.Given as goal

abbrev pub invariant-loop-left : goal.invariant-loop-left
invariant-loop-left l = record {
  same : l.events ++ events_from l.left l.x ≡ events_from l.fn.count l.fn.x;
  state : l.x < 4294967296;
}

abbrev pub decreases-loop-left : goal.decreases-loop-left
decreases-loop-left l = l.left
