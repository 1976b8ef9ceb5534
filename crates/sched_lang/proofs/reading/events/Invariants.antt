use Rattle.std.proofs.Common.{◌≡◌, ◌+◌, ◌≤◌, length}
use Rattle.sched_lang.specs.Words.{lines}
use Rattle.sched_lang.specs.Reading.{events_from}
use Rattle.sched_lang.proofs.Fronts.{with_front}
use Rattle.sched_lang.proofs.reading.events.Given as goal

abbrev pub invariant-loop-rest : goal.invariant-loop-rest
invariant-loop-rest l = record {
  same : with_front l.events (events_from l.header.switches l.header.chain (length l.events) l.number (lines l.rest)) ≡ events_from l.header.switches l.header.chain 0 l.fn.number (lines l.fn.text);
  count : length l.events ≤ 20000;
  within : l.number + length l.rest ≤ l.fn.number + length l.fn.text;
}

abbrev pub decreases-loop-rest : goal.decreases-loop-rest
decreases-loop-rest l = length l.rest
