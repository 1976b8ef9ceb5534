use Rattle.std.proofs.Common.{◌≡◌, take}
use Rattle.std.specs.Prelude.{fold}
use Rattle.run_ending.specs.Endings.{item_noted}
use Rattle.run_ending.proofs.notes.note_items.Given as goal

abbrev pub invariant-loop-journaled : goal.invariant-loop-journaled
invariant-loop-journaled l = record {
  place : l.place ≡ l.journaled-index;
  noted : (l.place, l.epochs) ≡ fold item_noted (0, l.fn.epochs) (take l.journaled-index l.items);
}
