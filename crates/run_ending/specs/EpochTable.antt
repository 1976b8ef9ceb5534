-- Notes by flow and epoch.
use Rattle.std.specs.Prelude.{Bool, ◌&&◌, ◌==◌, List, [], ◌∷◌, Option, Some, None, if◌then◌else◌}
use Rattle.key_table.specs.Table.{same_key}
use Rattle.run_ending.specs.declared.epoch_table.FlowEpoch.{FlowEpoch}
use Rattle.run_ending.specs.declared.epoch_notes.Note.{Note}
use Rattle.run_ending.specs.EpochNotes.{EpochNotes, no_notes, with_note}

abbrev pub Epochs : Type 0
Epochs = List (FlowEpoch × EpochNotes)

-- whether two epochs are the same one of the same flow
abbrev pub same_epoch : FlowEpoch → FlowEpoch → Bool
same_epoch a b = same_key a.key b.key && (a.epoch == b.epoch)

-- the notes of an epoch, if there are any
abbrev pub find_notes : Epochs → FlowEpoch → Option EpochNotes
find_notes [] at = None
find_notes (e ∷ es) at = if same_epoch e.0 at then Some e.1 else find_notes es at

-- the notes of an epoch from now on; those of a new one come last
abbrev pub put_notes : Epochs → FlowEpoch → EpochNotes → Epochs
put_notes [] at notes = (at, notes) ∷ []
put_notes (e ∷ es) at notes = if same_epoch e.0 at then (at, notes) ∷ es else e ∷ put_notes es at notes

abbrev pub notes_or_none : Option EpochNotes → EpochNotes
notes_or_none None = no_notes
notes_or_none (Some notes) = notes

-- the notes of an epoch
abbrev pub notes_at : Epochs → FlowEpoch → EpochNotes
notes_at es at = notes_or_none (find_notes es at)

-- the notes with one more of an epoch
abbrev pub noted_at : Epochs → FlowEpoch → Note → Epochs
noted_at es at note = put_notes es at (with_note (notes_at es at) note)
