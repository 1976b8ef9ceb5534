use Rattle.std.proofs.Common.{◌≡◌, ◌+◌, ◌++◌, drop}
use Rattle.proto_safety.specs.LegalLines.{feeds_from}
use Rattle.report_judge.specs.Judging.{is_among}
use Rattle.report_judge.proofs.feeds.feeds_outside.Given as goal

abbrev pub invariant-loop-event : goal.invariant-loop-event
invariant-loop-event l =
    record {
      number : l.number ≡ l.event-index + 1;
      feeds : l.feeds ++ feeds_from (is_among l.fn.refused.keys) l.number (drop l.event-index l.events) ≡ feeds_from (is_among l.fn.refused.keys) 1 l.events;
    }
