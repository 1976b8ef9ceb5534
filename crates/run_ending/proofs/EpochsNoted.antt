-- What is noted of one epoch of one flow.
use Rattle.std.proofs.Common.{◌≡◌, ℕ, ◌+◌, [], ◌∷◌, ◌++◌, List, Option, Some, None, Bool, true, false, refl, sym, ap, ◌∙◌, append_assoc, append-nil}
use Rattle.std.specs.Prelude.{if◌then◌else◌, ◌==◌, ◌&&◌, fold}
use Rattle.proto_data.specs.declared.message.Entry.{Entry}
use Rattle.key_table.specs.Table.{Key, same_key}
use Rattle.proto_model.specs.Records.{Booked}
use Rattle.proto_model.specs.World.{Journaled, RoundBegun}
use Rattle.proto_model.specs.Committed.{greater, number_in, closing_of, is_in}
use Rattle.proto_safety.proofs.Store.EpochNumbers.{greater-None}
use Rattle.run_ending.specs.declared.epoch_notes.Note.{Note}
use Rattle.run_ending.specs.declared.epoch_notes.Processed.{Processed}
use Rattle.run_ending.specs.declared.epoch_notes.Begin.{Begin}
use Rattle.run_ending.specs.EpochNotes.{EpochNotes, with_note}
use Rattle.run_ending.specs.EpochTable.{Epochs, same_epoch, notes_at, noted_at}
use Rattle.run_ending.specs.Endings.{epoch_at, entry_epoch, entry_number, entries_noted, item_noted, items_noted, rounds_noted, noted}
use Rattle.run_ending.proofs.EpochMaps.{note_found}

abbrev pub processed_at : ℕ → Journaled → Processed
processed_at place j = record { number = j.item.number; mark = j.item.mark; place = place }

-- the packets of an epoch, the first of all having this place
abbrev pub processed_in : Key → ℕ → ℕ → List Journaled → List Processed
processed_in k e n [] = []
processed_in k e n (j ∷ js) =
    if is_in k e j then processed_at n j ∷ processed_in k e (n + 1) js
    else processed_in k e (n + 1) js

abbrev pub begin_at : RoundBegun → Begin
begin_at r = record { round = r.begun.round; items_before = r.items_before }

-- the rounds of an epoch
abbrev pub begins_in : Key → ℕ → List RoundBegun → List Begin
begins_in k e [] = []
begins_in k e (r ∷ rs) =
    if same_key r.begun.key k && (r.begun.epoch == e) then begin_at r ∷ begins_in k e rs
    else begins_in k e rs

-- the greatest number of an epoch from this one on
abbrev closing_from : Key → ℕ → Option ℕ → List Booked → Option ℕ
closing_from k e c book = fold (λ c (b : Booked). greater c (number_in k e b.entry)) c book

number_at : (k : Key) (e : ℕ) (x : Entry) → (if same_epoch (entry_epoch x) (epoch_at k e) then Some (entry_number x) else None) ≡ number_in k e x
number_at k e (Entry.Grant key epoch switch inc nonce) = refl
number_at k e (Entry.Put key epoch number delta) = refl
number_at k e (Entry.Snap key epoch round cells) = refl

entries_at : (es : Epochs) (book : List Booked) (k : Key) (e : ℕ) → notes_at (entries_noted es book) (epoch_at k e) ≡ record (notes_at es (epoch_at k e)) { closing = closing_from k e (notes_at es (epoch_at k e)).closing book }
entries_at es [] k e = refl
entries_at es (b ∷ bs) k e =
    entries_at (noted_at es (entry_epoch b.entry) (Note.Number (entry_number b.entry))) bs k e
    ∙ ap (λ (n : EpochNotes). record n { closing = closing_from k e n.closing bs }) (note_found es (entry_epoch b.entry) (epoch_at k e) (Note.Number (entry_number b.entry)))
    ∙ by (notes_at es (epoch_at k e)) (same_epoch (entry_epoch b.entry) (epoch_at k e))
    ∙ ap (λ o. record (notes_at es (epoch_at k e)) { closing = closing_from k e (greater (notes_at es (epoch_at k e)).closing o) bs }) (number_at k e b.entry)
  where
    by : (n : EpochNotes) (s : Bool) →
        record (if s then with_note n (Note.Number (entry_number b.entry)) else n) { closing = closing_from k e (if s then with_note n (Note.Number (entry_number b.entry)) else n).closing bs }
        ≡ record n { closing = closing_from k e (greater n.closing (if s then Some (entry_number b.entry) else None)) bs }
    by n true = refl
    by n false = ap (λ c. record n { closing = closing_from k e c bs }) (sym (greater-None n.closing))

items_at : (place : ℕ) (es : Epochs) (items : List Journaled) (k : Key) (e : ℕ) → notes_at (fold item_noted (place, es) items).1 (epoch_at k e) ≡ record (notes_at es (epoch_at k e)) { items = (notes_at es (epoch_at k e)).items ++ processed_in k e place items }
items_at place es [] k e = ap (λ l. record (notes_at es (epoch_at k e)) { items = l }) (sym (append-nil (notes_at es (epoch_at k e)).items))
items_at place es (j ∷ js) k e =
    items_at (place + 1) (noted_at es (epoch_at j.item.key j.item.epoch) (Note.Item (processed_at place j))) js k e
    ∙ ap (λ (n : EpochNotes). record n { items = n.items ++ processed_in k e (place + 1) js }) (note_found es (epoch_at j.item.key j.item.epoch) (epoch_at k e) (Note.Item (processed_at place j)))
    ∙ by (notes_at es (epoch_at k e)) (is_in k e j)
  where
    by : (n : EpochNotes) (s : Bool) →
        record (if s then with_note n (Note.Item (processed_at place j)) else n) { items = (if s then with_note n (Note.Item (processed_at place j)) else n).items ++ processed_in k e (place + 1) js }
        ≡ record n { items = n.items ++ (if s then processed_at place j ∷ processed_in k e (place + 1) js else processed_in k e (place + 1) js) }
    by n true = ap (λ l. record n { items = l }) (append_assoc n.items (processed_at place j ∷ []) (processed_in k e (place + 1) js))
    by n false = refl

rounds_at : (es : Epochs) (rounds : List RoundBegun) (k : Key) (e : ℕ) → notes_at (rounds_noted es rounds) (epoch_at k e) ≡ record (notes_at es (epoch_at k e)) { begins = (notes_at es (epoch_at k e)).begins ++ begins_in k e rounds }
rounds_at es [] k e = ap (λ l. record (notes_at es (epoch_at k e)) { begins = l }) (sym (append-nil (notes_at es (epoch_at k e)).begins))
rounds_at es (r ∷ rs) k e =
    rounds_at (noted_at es (epoch_at r.begun.key r.begun.epoch) (Note.Round (begin_at r))) rs k e
    ∙ ap (λ (n : EpochNotes). record n { begins = n.begins ++ begins_in k e rs }) (note_found es (epoch_at r.begun.key r.begun.epoch) (epoch_at k e) (Note.Round (begin_at r)))
    ∙ by (notes_at es (epoch_at k e)) (same_key r.begun.key k && (r.begun.epoch == e))
  where
    by : (n : EpochNotes) (s : Bool) →
        record (if s then with_note n (Note.Round (begin_at r)) else n) { begins = (if s then with_note n (Note.Round (begin_at r)) else n).begins ++ begins_in k e rs }
        ≡ record n { begins = n.begins ++ (if s then begin_at r ∷ begins_in k e rs else begins_in k e rs) }
    by n true = ap (λ l. record n { begins = l }) (append_assoc n.begins (begin_at r ∷ []) (begins_in k e rs))
    by n false = refl

-- the notes of an epoch are its greatest number, its packets and its rounds
pub noted_of : (book : List Booked) (items : List Journaled) (rounds : List RoundBegun) (k : Key) (e : ℕ) →
    notes_at (noted book items rounds) (epoch_at k e) ≡ record { closing = closing_of k e book; items = processed_in k e 0 items; begins = begins_in k e rounds }
noted_of book items rounds k e =
    rounds_at (items_noted (entries_noted [] book) items) rounds k e
    ∙ ap (λ (n : EpochNotes). record n { begins = n.begins ++ begins_in k e rounds }) (items_at 0 (entries_noted [] book) items k e)
    ∙ ap (λ (n : EpochNotes). record n { items = n.items ++ processed_in k e 0 items; begins = n.begins ++ begins_in k e rounds }) (entries_at [] book k e)
