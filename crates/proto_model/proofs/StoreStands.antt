-- Each step of a replica keeps it where its book leaves it.
use Rattle.std.proofs.Common.{◌≡◌, ℕ, ◌+◌, ◌-◌, ◌≤◌, ◌<◌, List, [], ◌∷◌, ◌++◌, length, Option, None, arith, refl, sym, ap, ◌∙◌, drop, length-append, append-nil, true, false, Bool, nat_le}
use Rattle.std.proofs.lemmas.List.{drop-drop, drop_all, drop-append-le, map-append, length-map}
use Rattle.std.proofs.lemmas.Grind.{fold-append}
use Rattle.std.proofs.lemmas.Bool.{both_ways, false≢true}
use Rattle.proto_data.specs.declared.message.Entry.{Entry}
use Rattle.proto_data.specs.declared.message.Carried.{Carried}
use Rattle.proto_data.specs.declared.message.Input.{Input}
use Rattle.proto_model.specs.Effects.{added}
use Rattle.proto_model.proofs.StoreFits.{StoreFits, row_fits, commit_above, commit_within}
use Rattle.key_table.specs.Table.{put}
use Rattle.proto_model.specs.Records.{Booked, records_of, applied}
use Rattle.proto_model.specs.ReplicaState.{Replica, StoreStep, is_tail, is_member}
use Rattle.proto_model.specs.ReplicaRows.{StoreRow, Appends, AppendsSnap, Commits, Adopts, store_perform, store_row, store_step, appended_as, configured_as, tail_appended, inner_appended, with_entry}
use Rattle.proto_model.specs.Stands.{Stands, StandsAt, entries_of}

-- the book with what a step applied
abbrev pub book_after : ℕ → ℕ → List Booked → Option Entry → List Booked
book_after moment event book o = book ++ added (λ e. record { entry = e; moment = moment; event = event }) o

records_of-push : (cells : ℕ) (book : List Booked) (b : Booked) → records_of cells (book ++ b ∷ []) ≡ applied cells (records_of cells book) b.entry b.moment
records_of-push cells book b = fold-append (λ records (b : Booked). applied cells records b.entry b.moment) [] book (b ∷ [])

pub entries_of-push : (book : List Booked) (b : Booked) → entries_of (book ++ b ∷ []) ≡ entries_of book ++ b.entry ∷ []
entries_of-push book b = map-append (λ (b : Booked). b.entry) book (b ∷ [])

pub length-entries_of : (book : List Booked) → length (entries_of book) ≡ length book
length-entries_of book = length-map book (λ (b : Booked). b.entry)

-- a step that applies nothing and keeps these components
kept : (r : Replica) (book : List Booked) → Stands r book → Stands r (book ++ [])
kept r book h = rw append-nil h

tail_stands : (r : Replica) (book : List Booked) (e : Entry) (load : Option Carried) (now event : ℕ) → is_tail r ≡ true → Stands r book →
    Stands (tail_appended (with_entry r e now) e load).0 (book ++ record { entry = e; moment = now; event = event } ∷ [])
tail_stands r book e load now event tail h =
    record {
      records_along = ap (λ rs. applied r.cell_count rs e now) h.records_along ∙ sym (records_of-push r.cell_count book (record { entry = e; moment = now; event = event }));
      count = omega (arith, h.count, length-append {A = Booked});
      pending_past =
          h.pending_past
          ∙ (drop_all r.known (entries_of book) (omega (arith, length-entries_of book, h.known_at_tail tail))
          ∙ sym (drop_all (r.applied + 1) (entries_of (book ++ record { entry = e; moment = now; event = event } ∷ []))
          (omega (arith, h.count, length-entries_of (book ++ record { entry = e; moment = now; event = event } ∷ []), length-append {A = Booked}))));
      known_within = omega (arith, h.count, length-append {A = Booked});
      known_at_tail = λ _. omega (arith, h.count, length-append {A = Booked});
    }

inner_stands : (r : Replica) (book : List Booked) (e : Entry) (load : Option Carried) (now event : ℕ) → is_tail r ≡ false → Stands r book →
    Stands (inner_appended (with_entry r e now) e load).0 (book ++ record { entry = e; moment = now; event = event } ∷ [])
inner_stands r book e load now event tail h =
    record {
      records_along = ap (λ rs. applied r.cell_count rs e now) h.records_along ∙ sym (records_of-push r.cell_count book (record { entry = e; moment = now; event = event }));
      count = omega (arith, h.count, length-append {A = Booked});
      pending_past =
          ap (λ p. p ++ e ∷ []) h.pending_past
          ∙ (sym (drop-append-le r.known (entries_of book) (e ∷ []) (omega (arith, length-entries_of book, h.known_within)))
          ∙ ap (λ es. drop r.known es) (sym (entries_of-push book (record { entry = e; moment = now; event = event }))));
      known_within = omega (arith, h.known_within, length-append {A = Booked});
      known_at_tail = λ t. absurd (both_ways (is_tail r) tail t);
    }

-- what a step leaves
abbrev pub StepStands : List Booked → ℕ → ℕ → StoreStep → Type 0
StepStands book now event step = Stands step.0 (book_after now event book step.1.applied)

appended_stands : (member tail full : Bool) (r : Replica) (book : List Booked) (now event : ℕ) (e : Entry) (load : Option Carried) → is_tail r ≡ tail →
    Stands r book → StepStands book now event (appended_as member tail full r now e load)
appended_stands false tail full r book now event e load is h = kept r book h
appended_stands true true full r book now event e load is h = tail_stands r book e load now event is h
appended_stands true false true r book now event e load is h = kept r book h
appended_stands true false false r book now event e load is h = inner_stands r book e load now event is h

configured_stands : (tail : Bool) (r : Replica) (book : List Booked) (now event : ℕ) → is_tail r ≡ tail → StandsAt r.cell_count r.records r.applied r.known r.pending false book →
    StepStands book now event (configured_as tail r)
configured_stands true r book now event is h =
    rw append-nil
    (record {
      records_along = h.records_along;
      count = h.count;
      pending_past = sym (drop_all r.applied (entries_of book) (omega (arith, length-entries_of book, h.count)));
      known_within = omega (arith, h.count);
      known_at_tail = λ _. h.count;
    })
configured_stands false r book now event is h =
    rw append-nil
    (record {
      records_along = h.records_along;
      count = h.count;
      pending_past = h.pending_past;
      known_within = h.known_within;
      known_at_tail = λ t. absurd (both_ways (is_tail r) is t);
    })

committed_stands : (r : Replica) (book : List Booked) (index : ℕ) → r.known < index → index ≤ r.applied → Stands r book →
    StandsAt r.cell_count r.records r.applied index (drop (index - r.known) r.pending) (is_tail r) book
committed_stands r book index above within h =
    record {
      records_along = h.records_along;
      count = h.count;
      pending_past = ap (λ p. drop (index - r.known) p) h.pending_past ∙ (drop-drop (index - r.known) r.known (entries_of book) ∙ ap (λ n. drop n (entries_of book)) (omega arith));
      known_within = omega (arith, h.count);
      known_at_tail = λ t. omega (arith, h.count, h.known_at_tail t);
    }

pub row_stands : (r : Replica) (book : List Booked) (now event : ℕ) (row : StoreRow) → StoreFits r row → Stands r book → StepStands book now event (store_perform r now row)
row_stands r book now event (Appends e load) fits h = appended_stands (is_member r) (is_tail r) (nat_le 256 (length r.pending)) r book now event e load refl h
row_stands r book now event (AppendsSnap key g e) fits h =
    appended_stands (is_member r) (is_tail r) (nat_le 256 (length r.pending)) (record r { gathered = put r.gathered key g }) book now event e None refl h
row_stands r book now event (Commits index) fits h = rw append-nil (committed_stands r book index (commit_above fits) (commit_within fits) h)
row_stands r book now event (Adopts config) fits h =
    configured_stands (is_tail (record r { config = config })) (record r { config = config }) book now event refl
    (record { records_along = h.records_along; count = h.count; pending_past = h.pending_past; known_within = h.known_within; known_at_tail = λ t. absurd (false≢true t) })
row_stands r book now event _ fits h = rw append-nil h

-- one step
pub step_stands : (r : Replica) (book : List Booked) (now event : ℕ) (input : Input) → Stands r book → StepStands book now event (store_step r now input)
step_stands r book now event input h = row_stands r book now event (store_row r now input) (row_fits r now input) h
