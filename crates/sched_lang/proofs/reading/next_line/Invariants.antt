use Rattle.std.proofs.Common.{◌≡◌, ◌+◌, ◌≤◌, length}
use Rattle.sched_lang.specs.Words.{lines}
use Rattle.sched_lang.specs.Reading.{next_line}
use Rattle.sched_lang.proofs.reading.next_line.Given as goal

abbrev pub invariant-loop-rest : goal.invariant-loop-rest
invariant-loop-rest l = record {
  same : next_line l.number (lines l.rest) ≡ next_line l.number-2 (lines l.fn.text);
  within : l.number + length l.rest ≤ l.number-2 + length l.fn.text;
}

abbrev pub decreases-loop-rest : goal.decreases-loop-rest
decreases-loop-rest l = length l.rest
