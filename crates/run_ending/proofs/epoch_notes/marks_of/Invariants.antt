use Rattle.std.proofs.Common.{◌≡◌, map, take}
use Rattle.run_ending.specs.declared.epoch_notes.Processed.{Processed}
use Rattle.run_ending.proofs.epoch_notes.marks_of.Given as goal

abbrev pub invariant-loop-item : goal.invariant-loop-item
invariant-loop-item l = l.marks ≡ map (λ (i : Processed). i.mark) (take l.item-index l.items)
