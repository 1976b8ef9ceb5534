-- The end lines of a run, from the grants and the notes of each epoch.
use Rattle.std.specs.Prelude.{ℕ, ◌≡◌, ◌+◌, List, [], ◌∷◌, ◌++◌, Option, Some, None, fold, map, flat_map}
use Rattle.rp_base.specs.declared.line.Line.{Line as Shown}
use Rattle.proto_data.specs.declared.message.Entry.{Entry}
use Rattle.proto_data.specs.declared.message.Record.{Record}
use Rattle.proto_data.specs.declared.terms.Mode.{Mode}
use Rattle.key_table.specs.Table.{Key, Table, get, put}
use Rattle.proto_model.specs.Records.{Booked, Records}
use Rattle.proto_model.specs.World.{World, Journaled, RoundBegun}
use Rattle.proto_model.specs.Committed.{committed_book, committed_records}
use Rattle.run_ending.specs.declared.epoch_table.FlowEpoch.{FlowEpoch}
use Rattle.run_ending.specs.declared.epoch_notes.Note.{Note}
use Rattle.run_ending.specs.EpochNotes.{all_marks, closed_marks, kept_in}
use Rattle.run_ending.specs.EpochTable.{Epochs, notes_at, noted_at}

-- the epochs granted to each flow, in order
abbrev pub Grants : Type 0
Grants = Table (List ℕ)

-- no epoch where none is granted
abbrev pub granted_or_none : Option (List ℕ) → List ℕ
granted_or_none None = []
granted_or_none (Some epochs) = epochs

-- the epochs granted to a flow
abbrev pub granted_to : Grants → Key → List ℕ
granted_to grants key = granted_or_none (get grants key)

-- the grants after one entry
abbrev pub with_grant : Grants → Entry → Grants
with_grant grants (Entry.Grant key epoch switch inc nonce) = put grants key (granted_to grants key ++ epoch ∷ [])
with_grant grants (Entry.Put key epoch number delta) = grants
with_grant grants (Entry.Snap key epoch round cells) = grants

-- the grants of a book
abbrev pub grants_of : List Booked → Grants
grants_of book = fold (λ grants (b : Booked). with_grant grants b.entry) [] book

-- the epoch of a flow
abbrev pub epoch_at : Key → ℕ → FlowEpoch
epoch_at key epoch = record { key = key; epoch = epoch }

-- the epoch of an entry
abbrev pub entry_epoch : Entry → FlowEpoch
entry_epoch (Entry.Grant key epoch switch inc nonce) = epoch_at key epoch
entry_epoch (Entry.Put key epoch number delta) = epoch_at key epoch
entry_epoch (Entry.Snap key epoch round cells) = epoch_at key epoch

-- the number of an entry in its epoch, a Grant counting as 0
abbrev pub entry_number : Entry → ℕ
entry_number (Entry.Grant key epoch switch inc nonce) = 0
entry_number (Entry.Put key epoch number delta) = number
entry_number (Entry.Snap key epoch round cells) = round

-- the notes with the entries of a book
abbrev pub entries_noted : Epochs → List Booked → Epochs
entries_noted es book = fold (λ es (b : Booked). noted_at es (entry_epoch b.entry) (Note.Number (entry_number b.entry))) es book

-- the notes with the packet that has this place among all
abbrev pub item_noted : ℕ × Epochs → Journaled → ℕ × Epochs
item_noted s j = (
  s.0 + 1,
  noted_at s.1 (epoch_at j.item.key j.item.epoch) (Note.Item (record { number = j.item.number; mark = j.item.mark; place = s.0 })),
)

-- the notes with all packets
abbrev pub items_noted : Epochs → List Journaled → Epochs
items_noted es items = (fold item_noted (0, es) items).1

-- the notes with the rounds
abbrev pub rounds_noted : Epochs → List RoundBegun → Epochs
rounds_noted es rounds =
    fold
    (λ es (r : RoundBegun).
    noted_at es (epoch_at r.begun.key r.begun.epoch) (Note.Round (record { round = r.begun.round; items_before = r.items_before })))
    es
    rounds

-- the notes of a book, of the processed packets and of the begun rounds
abbrev pub noted : List Booked → List Journaled → List RoundBegun → Epochs
noted book items rounds = rounds_noted (items_noted (entries_noted [] book) items) rounds

-- the marks of a flow's serial list, epoch by epoch
abbrev pub serial_in : Epochs → Key → List ℕ → List ℕ
serial_in es key granted = flat_map (λ epoch. closed_marks (notes_at es (epoch_at key epoch))) granted

-- the line of an epoch
abbrev pub epoch_line : Epochs → Key → ℕ → Shown
epoch_line es key epoch =
    Shown.Epoch key epoch (kept_in (notes_at es (epoch_at key epoch))) (all_marks (notes_at es (epoch_at key epoch)))

-- the lines of a flow before its cells
abbrev pub item_lines_in : Mode → Epochs → Key → List ℕ → List Shown
item_lines_in Mode.Strict es key granted = Shown.Serial key (serial_in es key granted) ∷ []
item_lines_in (Mode.Snapshot bound) es key granted = map (epoch_line es key) granted

-- the lines of a flow
abbrev pub flow_shown : Mode → Grants → Epochs → Key × Record → List Shown
flow_shown mode grants es e = item_lines_in mode es e.0 (granted_to grants e.0) ++ Shown.Cells e.0 e.1.cells ∷ []

-- the end lines, each flow in the order of the records
abbrev pub closing_shown : Mode → Grants → Epochs → Records → List Shown
closing_shown mode grants es records = flat_map (flow_shown mode grants es) records ++ Shown.End ∷ []

-- these are the mode, the records, the book, the processed packets and the begun rounds of a world
pub record IsEnd (cells : ℕ) (w : World) (m : Mode) (rs : Records) (bs : List Booked) (js : List Journaled) (begun : List RoundBegun) : Type 0 where
  pub mode : w.terms.mode ≡ m
  pub records : rs ≡ committed_records cells w
  pub book : committed_book w ≡ bs
  pub items : w.history.items ≡ js
  pub rounds : w.history.rounds ≡ begun
