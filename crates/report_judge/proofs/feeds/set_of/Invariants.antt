use Rattle.std.proofs.Common.{◌≡◌, ℕ, take}
use Rattle.report_judge.specs.Judging.{is_among}
use Rattle.report_judge.proofs.feeds.set_of.Given as goal

abbrev pub invariant-loop-event : goal.invariant-loop-event
invariant-loop-event l = (n : ℕ) → is_among l.set.keys n ≡ is_among (take l.event-index l.refused) n
