use Rattle.std.proofs.Common.{◌≡◌, take}
use Rattle.run_ending.specs.Endings.{rounds_noted}
use Rattle.run_ending.proofs.notes.note_rounds.Given as goal

abbrev pub invariant-loop-round : goal.invariant-loop-round
invariant-loop-round l = l.epochs ≡ rounds_noted l.fn.epochs (take l.round-index l.rounds)
