use Rattle.std.proofs.Common.{subst, sym, ◌∙◌}
use Rattle.report_audit.specs.Rising.{EventsRise, MarksAreEvents}
use Rattle.report_judge.specs.Judging.{is_among}
use Rattle.report_judge.proofs.Feeding.{feeds_rise, marks_are_events}
use Rattle.report_judge.proofs.judgement.audited.Goals as goal

pub audit-requires-clause-rise : goal.audit-requires-clause-rise
audit-requires-clause-rise g c = subst EventsRise (sym (c.as_slice-2.ensures ∙ c.in_ok-feeds.ensures)) (feeds_rise (is_among c.as_slice.result.now) 1 c.args.events.now)

pub audit-requires-clause-marks : goal.audit-requires-clause-marks
audit-requires-clause-marks g c = subst MarksAreEvents (sym (c.as_slice-2.ensures ∙ c.in_ok-feeds.ensures)) (marks_are_events (is_among c.as_slice.result.now) 1 c.args.events.now)
