-- The epochs of a flow count from 1 along a book, and its serial list goes by them.
use Rattle.std.proofs.Common.{◌≡◌, ℕ, ◌+◌, ◌≤◌, List, [], ◌∷◌, Option, Some, None, zero, suc, length, arith, refl, sym, ap, subst, ◌∙◌, inl, inr}
use Rattle.std.specs.Prelude.{if◌then◌else◌, flat_map}
use Rattle.std.specs.List.{cons_option, range_with_len}
use Rattle.rp_base.specs.declared.event.Event.{Event}
use Rattle.proto_data.specs.declared.message.Entry.{Entry}
use Rattle.rp_app.specs.Application.{Application}
use Rattle.key_table.specs.Table.{Key}
use Rattle.proto_model.specs.Records.{Booked}
use Rattle.proto_model.specs.Stands.{entries_of}
use Rattle.proto_model.specs.Feeds.{Each, Pairwise}
use Rattle.proto_model.specs.Committed.{committed_book, epoch_granted, closed_items}
use Rattle.proto_model.specs.World.{World, Setup, ReplicaNode, Journaled, opened}
use Rattle.proto_model.specs.WorldStep.{world_after}
use Rattle.proto_data.specs.declared.message.Msg.{Msg}
use Rattle.proto_model.specs.Pumping.{Received, linked_run}
use Rattle.proto_safety.specs.Books.{In, BooksHold, committed_of}
use Rattle.proto_safety.specs.EpochOrder.{EpochsRise, SerialByEpoch, epoch_count}
use Rattle.proto_safety.specs.Flows.{FlowRecord, FitsFrom, flow_step}
use Rattle.proto_safety.proofs.Store.BookEpochLaws.{books_fit, committed_fits}
use Rattle.proto_safety.proofs.Store.BookEpochs.{Stepped, other, first, next, put, snap, stepped}
use Rattle.proto_safety.proofs.Legality.LegalNow.{epochs_same, serial_same}
use Rattle.proto_safety.proofs.Serial.SerialLists.{epochs_in, closed_in, no_grant}
use Rattle.proto_safety.proofs.Serial.SerialOnce.{closed_of}
use Rattle.key_table.proofs.Tables.{same_key-refl}
use Rattle.proto_safety.proofs.Store.WorldFits.{BooksFit, NodeFits, fits_kept, opened_fits}
use Rattle.proto_safety.proofs.Store.WorldBooks.{books_kept, books_hold}
use Rattle.proto_safety.proofs.Inductions.Induction.{keeps_both}
use Rattle.proto_safety.proofs.Link.LinkedKept.{linked_kept}
use Rattle.proto_safety.proofs.Basics.Eachs.{each_all, each_in, each_weaker}
use Rattle.proto_safety.proofs.Basics.Members.{in_flat_parts}
use Rattle.proto_safety.proofs.Basics.Pairs.{pairwise_flat}

-- the epoch that a flow has reached
abbrev reached : Option FlowRecord → ℕ
reached None = 0
reached (Some f) = f.epoch

-- these epochs come next
abbrev Count : ℕ → List ℕ → Type 0
Count k es = es ≡ range_with_len (k + 1) (length es)

count_step : {n : ℕ} {key : Key} {o u : Option FlowRecord} {e : Entry} (rest : List ℕ) → Stepped n key o e u → Count (reached u) rest → Count (reached o) (cons_option (epoch_granted key e) rest)
count_step {key = key} {o = o} {e = e} rest (other ne) h = subst (λ x. Count (reached o) (cons_option x rest)) (sym (no_grant key e ne)) h
count_step {key = key} rest first h = subst (λ b. Count 0 (cons_option (if b then Some 1 else None) rest)) (sym (same_key-refl key)) (ap (λ l. 1 ∷ l) h)
count_step {key = key} rest (next {f = f}) h = subst (λ b. Count f.epoch (cons_option (if b then Some (f.epoch + 1) else None) rest)) (sym (same_key-refl key)) (ap (λ l. (f.epoch + 1) ∷ l) h)
count_step rest put h = h
count_step rest snap h = h

count_from : (n : ℕ) (key : Key) (o : Option FlowRecord) (es : List Entry) → FitsFrom n key o es → Count (reached o) (epochs_in key es)
count_from n key o [] h = refl
count_from n key o (e ∷ es) h = count_step (epochs_in key es) (stepped n key o e h.0) (count_from n key (flow_step n key o e) es h.1)

-- of a book
book_counts : (n : ℕ) (key : Key) (book : List Booked) → FitsFrom n key None (entries_of book) → EpochsRise key book
book_counts n key book fits = subst (λ l. Count 0 l) (sym (epochs_same key book)) (count_from n key None (entries_of book) fits)

pub books_count : (cells : ℕ) (w : World) (key : Key) → BooksFit cells w → Each (λ (r : ReplicaNode). EpochsRise key r.book) w.replicas
books_count cells w key fits = each_weaker (NodeFits cells) (λ (r : ReplicaNode). EpochsRise key r.book) w.replicas (λ r f. book_counts cells key r.book (f.fits key)) fits

pub each_book_counts : (app : Application) (setup : Setup) (events : List Event) (key : Key) → Each (λ (r : ReplicaNode). EpochsRise key r.book) (world_after app (opened app.cell_count setup) events).replicas
each_book_counts app setup events key = books_count app.cell_count (world_after app (opened app.cell_count setup) events) key (books_fit app setup events)

pub fitting_counts : (cells : ℕ) (w : World) (key : Key) → BooksFit cells w → EpochsRise key (committed_book w)
fitting_counts cells w key fits = book_counts cells key (committed_book w) (committed_fits cells w key fits)

pub committed_counts : (app : Application) (setup : Setup) (events : List Event) (key : Key) → EpochsRise key (committed_book (world_after app (opened app.cell_count setup) events))
committed_counts app setup events key = fitting_counts app.cell_count (world_after app (opened app.cell_count setup) events) key (books_fit app setup events)

-- ---- the serial list

range_above : (a b n : ℕ) → a ≤ b → Each (λ k. a ≤ k) (range_with_len b n)
range_above a b zero le = tt
range_above a b (suc n) le = (le, range_above a (b + 1) n (omega (arith, le)))

range_below : (b n c : ℕ) → b + n ≤ c + 1 → Each (λ k. k ≤ c) (range_with_len b n)
range_below b zero c le = tt
range_below b (suc n) c le = (omega (arith, le), range_below (b + 1) n c (omega (arith, le)))

range_rises : (b n : ℕ) → Pairwise (λ d e. d ≤ e) (range_with_len b n)
range_rises b zero = tt
range_rises b (suc n) = (range_above b (b + 1) n (omega arith), range_rises (b + 1) n)

pub serial_by_epoch : (cells : ℕ) (w : World) (key : Key) → BooksFit cells w → SerialByEpoch w key
serial_by_epoch cells w key fits =
    let counts : EpochsRise key (committed_book w) = fitting_counts cells w key fits in
    record {
      parts = ap (λ l. flat_map (closed_items w key) l) counts;
      rising = subst (λ l. Pairwise (λ (a b : Journaled). a.item.epoch ≤ b.item.epoch) l) (sym (serial_same w key))
          (pairwise_flat (λ d e. d ≤ e) (λ (a b : Journaled). a.item.epoch ≤ b.item.epoch) closed epochs
          (subst (λ l. Pairwise (λ d e. d ≤ e) l) (sym (counted counts)) (range_rises 1 (epoch_count w key)))
          (λ e i. same_epochs e (closed e) (λ j k. of_epoch e j k))
          (λ d e a b le i j. omega (arith, le, of_epoch d a i, of_epoch e b j)));
      first = subst (λ l. Each (λ (j : Journaled). 1 ≤ j.item.epoch) l) (sym (serial_same w key))
          (each_all (λ (j : Journaled). 1 ≤ j.item.epoch) (flat_map closed epochs)
          (λ j i. let p = in_flat_parts closed epochs j i in omega (arith, of_epoch p.0 j p.1.1, each_in (λ k. 1 ≤ k) epochs p.0 (subst (λ l. Each (λ k. 1 ≤ k) l) (sym (counted counts)) (range_above 1 1 (epoch_count w key) (omega arith))) p.1.0)));
      last = subst (λ l. Each (λ (j : Journaled). j.item.epoch ≤ epoch_count w key) l) (sym (serial_same w key))
          (each_all (λ (j : Journaled). j.item.epoch ≤ epoch_count w key) (flat_map closed epochs)
          (λ j i. let p = in_flat_parts closed epochs j i in omega (arith, of_epoch p.0 j p.1.1, each_in (λ k. k ≤ epoch_count w key) epochs p.0 (subst (λ l. Each (λ k. k ≤ epoch_count w key) l) (sym (counted counts)) (range_below 1 (epoch_count w key) (epoch_count w key) (omega arith))) p.1.0)));
    }
  where
    closed : ℕ → List Journaled
    closed e = closed_in key (committed_of w.replicas) w.history.items e

    epochs : List ℕ
    epochs = epochs_in key (committed_of w.replicas)

    counted : EpochsRise key (committed_book w) → epochs_in key (committed_of w.replicas) ≡ range_with_len 1 (epoch_count w key)
    counted h = sym (epochs_same key (committed_book w)) ∙ h

    of_epoch : (e : ℕ) (j : Journaled) → In (closed_in key (committed_of w.replicas) w.history.items e) j → j.item.epoch ≡ e
    of_epoch e j i = (closed_of key (committed_of w.replicas) w.history.items e j i).1.1

    same_epochs : (e : ℕ) (js : List Journaled) → ((j : Journaled) → In js j → j.item.epoch ≡ e) → Pairwise (λ (a b : Journaled). a.item.epoch ≤ b.item.epoch) js
    same_epochs e [] h = tt
    same_epochs e (j ∷ js) h =
        (each_all (λ (b : Journaled). j.item.epoch ≤ b.item.epoch) js (λ b i. omega (arith, h j (inl refl), h b (inr i))), same_epochs e js (λ b i. h b (inr i)))

pub serials_go_by_epoch : (app : Application) (setup : Setup) (events : List Event) (key : Key) → SerialByEpoch (world_after app (opened app.cell_count setup) events) key
serials_go_by_epoch app setup events key = serial_by_epoch app.cell_count (world_after app (opened app.cell_count setup) events) key (books_fit app setup events)

-- ---- over a link

linked_books_fit : (spelled : Msg → List ℕ) (app : Application) (setup : Setup) (events : List Event) (received : List Received) → BooksFit app.cell_count (linked_run spelled app setup events received).world
linked_books_fit spelled app setup events received =
    (linked_kept spelled app (λ w. BooksHold w × BooksFit app.cell_count w) (keeps_both app BooksHold (BooksFit app.cell_count) (books_kept app) (fits_kept app)) setup events received
    (books_hold app setup [], opened_fits app.cell_count setup)).1

pub linked_books_count : (spelled : Msg → List ℕ) (app : Application) (setup : Setup) (events : List Event) (received : List Received) (key : Key) → Each (λ (r : ReplicaNode). EpochsRise key r.book) (linked_run spelled app setup events received).world.replicas
linked_books_count spelled app setup events received key = books_count app.cell_count (linked_run spelled app setup events received).world key (linked_books_fit spelled app setup events received)

pub linked_committed_counts : (spelled : Msg → List ℕ) (app : Application) (setup : Setup) (events : List Event) (received : List Received) (key : Key) → EpochsRise key (committed_book (linked_run spelled app setup events received).world)
linked_committed_counts spelled app setup events received key = fitting_counts app.cell_count (linked_run spelled app setup events received).world key (linked_books_fit spelled app setup events received)

pub linked_serials_go_by_epoch : (spelled : Msg → List ℕ) (app : Application) (setup : Setup) (events : List Event) (received : List Received) (key : Key) → SerialByEpoch (linked_run spelled app setup events received).world key
linked_serials_go_by_epoch spelled app setup events received key = serial_by_epoch app.cell_count (linked_run spelled app setup events received).world key (linked_books_fit spelled app setup events received)
