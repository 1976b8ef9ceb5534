use Rattle.std.proofs.Common.{◌≡◌, take}
use Rattle.run_ending.specs.Endings.{entries_noted}
use Rattle.run_ending.proofs.notes.note_entries.Given as goal

abbrev pub invariant-loop-booked : goal.invariant-loop-booked
invariant-loop-booked l = l.epochs ≡ entries_noted l.fn.epochs (take l.booked-index l.book)
