use Rattle.std.proofs.Common.{◌≡◌, ◌+◌, ◌≤◌, length}
use Rattle.report_read.specs.Words.{lines}
use Rattle.report_read.specs.Reading.{opening, lines_from}
use Rattle.report_read.proofs.reading.read.Given as goal

abbrev pub invariant-loop-rest : goal.invariant-loop-rest
invariant-loop-rest l = record {
  same : lines_from l.events l.number l.reading (lines l.rest) ≡ lines_from l.fn.events 1 opening (lines l.fn.b);
  within : l.number + length l.rest ≤ 1 + length l.fn.b;
  long : length l.fn.b ≤ 67108864;
}

abbrev pub decreases-loop-rest : goal.decreases-loop-rest
decreases-loop-rest l = length l.rest
