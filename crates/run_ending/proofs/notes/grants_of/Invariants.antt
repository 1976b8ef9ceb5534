use Rattle.std.proofs.Common.{◌≡◌, take}
use Rattle.run_ending.specs.Endings.{grants_of}
use Rattle.run_ending.proofs.notes.grants_of.Given as goal

abbrev pub invariant-loop-booked : goal.invariant-loop-booked
invariant-loop-booked l = l.grants ≡ grants_of (take l.booked-index l.book)
