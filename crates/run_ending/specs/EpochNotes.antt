-- What is noted of one epoch of a flow, and what the end lines say of it.
use Rattle.std.specs.Prelude.{ℕ, Bool, false, ◌==◌, List, [], ◌∷◌, ◌++◌, Option, Some, None, find, map, filter, nat_lt, nat_le, count_by}
use Rattle.proto_model.specs.Committed.{greater}
use Rattle.run_ending.specs.declared.epoch_notes.Processed.{Processed}
use Rattle.run_ending.specs.declared.epoch_notes.Begin.{Begin}
use Rattle.run_ending.specs.declared.epoch_notes.Note.{Note}

-- the greatest number of a committed entry, and the epoch's processed packets and begun rounds, in order
pub record EpochNotes : Type 0 where
  pub closing : Option ℕ
  pub items : List Processed
  pub begins : List Begin

-- nothing is noted
abbrev pub no_notes : EpochNotes
no_notes = record { closing = None; items = []; begins = [] }

-- the notes with one more
abbrev pub with_note : EpochNotes → Note → EpochNotes
with_note n (Note.Number number) = record n { closing = greater n.closing (Some number) }
with_note n (Note.Item item) = record n { items = n.items ++ item ∷ [] }
with_note n (Note.Round begin) = record n { begins = n.begins ++ begin ∷ [] }

-- whether a packet's number is up to this
abbrev pub is_within : Option ℕ → Processed → Bool
is_within None item = false
is_within (Some closing) item = nat_le item.number closing

-- the marks of all packets, in order of processing
abbrev pub all_marks : EpochNotes → List ℕ
all_marks n = map (λ (i : Processed). i.mark) n.items

-- the marks of the committed packets, in order of processing
abbrev pub closed_marks : EpochNotes → List ℕ
closed_marks n = map (λ (i : Processed). i.mark) (filter (is_within n.closing) n.items)

-- the first begin of this round
abbrev pub begin_of : ℕ → List Begin → Option Begin
begin_of round begins = find (λ (b : Begin). b.round == round) begins

-- how many packets were processed before a begin
abbrev pub items_before : List Processed → Option Begin → ℕ
items_before items None = 0
items_before items (Some b) = count_by (λ (i : Processed). nat_lt i.place b.items_before) items

-- how many packets a snapshot of this round has
abbrev pub kept_by : List Processed → List Begin → Option ℕ → ℕ
kept_by items begins None = 0
kept_by items begins (Some round) = items_before items (begin_of round begins)

-- how many packets the last committed snapshot has
abbrev pub kept_in : EpochNotes → ℕ
kept_in n = kept_by n.items n.begins n.closing
