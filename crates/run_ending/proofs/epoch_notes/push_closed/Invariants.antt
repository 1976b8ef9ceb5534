use Rattle.std.proofs.Common.{◌≡◌, ◌++◌, map, filter, take}
use Rattle.run_ending.specs.EpochNotes.{is_within}
use Rattle.run_ending.specs.declared.epoch_notes.Processed.{Processed}
use Rattle.run_ending.proofs.epoch_notes.push_closed.Given as goal

abbrev pub invariant-loop-item : goal.invariant-loop-item
invariant-loop-item l = l.marks ≡ l.fn.marks ++ map (λ (i : Processed). i.mark) (filter (is_within l.closing) (take l.item-index l.items))
