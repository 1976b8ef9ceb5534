use Rattle.std.proofs.Common.{◌≡◌, ◌++◌, take, flat_map}
use Rattle.sched_print.specs.Text.{header_text, event_text}
use Rattle.sched_print.proofs.printing.print.Given as goal

abbrev pub invariant-loop-event : goal.invariant-loop-event
invariant-loop-event l = l.text ≡ header_text l.s ++ flat_map event_text (take l.event-index l.s.events)
