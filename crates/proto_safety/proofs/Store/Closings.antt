-- A flow's record has the closing of its epoch: the greatest number that the book has there.
use Rattle.std.proofs.Common.{◌≡◌, ℕ, ◌+◌, ◌<◌, ◌≤◌, List, [], ◌∷◌, ◌++◌, Option, Some, None, refl, sym, ap, ◌∙◌, true, false, Bool, arith, max, eqb-true, eq-eqb, ne_eqb, subst}
use Rattle.std.specs.Prelude.{◌==◌, ◌&&◌, if◌then◌else◌}
use Rattle.std.proofs.lemmas.Bool.{and_parts, false≢true}
use Rattle.std.proofs.lemmas.Grind.{fold-append}
use Rattle.proto_data.specs.declared.message.Entry.{Entry}
use Rattle.proto_data.specs.declared.message.Record.{Record}
use Rattle.key_table.specs.Table.{Key, same_key, get, put}
use Rattle.proto_model.specs.Records.{Booked, Records, applied, entry_fits, next_epoch, cells_of, delta_within, fits_at, put_applied}
use Rattle.rp_app.specs.Application.{Delta, written}
use Rattle.proto_model.specs.Committed.{closing_of, number_in, greater}
use Rattle.key_table.proofs.Tables.{same_key-true, same_key-refl, get-put_same, get-put_other, same_some}
use Rattle.proto_safety.proofs.Store.EpochNumbers.{greater-None}

pub record Closed (records : Records) (book : List Booked) : Type 0 where
  pub present : (key : Key) (r : Record) → get records key ≡ Some r → closing_of key r.epoch book ≡ Some r.last
  pub later : (key : Key) (r : Record) (e : ℕ) → get records key ≡ Some r → r.epoch < e → closing_of key e book ≡ None
  pub absent : (key : Key) (e : ℕ) → get records key ≡ None → closing_of key e book ≡ None

closing_of-push : (key : Key) (e : ℕ) (book : List Booked) (b : Booked) → closing_of key e (book ++ b ∷ []) ≡ greater (closing_of key e book) (number_in key e b.entry)
closing_of-push key e book b = fold-append (λ c (b : Booked). greater c (number_in key e b.entry)) None book (b ∷ [])

-- an entry has this number in this epoch of this flow, and none elsewhere
abbrev Numbers : Entry → Key → ℕ → ℕ → Type 0
Numbers entry k epoch n = (key : Key) (e : ℕ) → number_in key e entry ≡ (if same_key k key && (epoch == e) then Some n else None)

-- one more entry, which leaves this record
module _ (records : Records) (book : List Booked) (b : Booked) (k : Key) (new : Record) (n : ℕ) (h : Closed records book)
    (numbers : Numbers b.entry k new.epoch n) (closes : greater (closing_of k new.epoch book) (Some n) ≡ Some new.last)
    (ends : (e : ℕ) → new.epoch < e → closing_of k e book ≡ None) where
  elsewhere : (key : Key) (e : ℕ) → same_key k key ≡ false → closing_of key e (book ++ b ∷ []) ≡ closing_of key e book
  elsewhere key e ne = closing_of-push key e book b ∙ (ap (λ o. greater (closing_of key e book) o) (numbers key e ∙ rw ne refl) ∙ greater-None (closing_of key e book))

  here : closing_of k new.epoch (book ++ b ∷ []) ≡ Some new.last
  here = closing_of-push k new.epoch book b
      ∙ (ap (λ o. greater (closing_of k new.epoch book) o) (numbers k new.epoch ∙ rw (same_key-refl k, eq-eqb new.epoch new.epoch refl) refl) ∙ closes)

  past : (e : ℕ) → new.epoch < e → closing_of k e (book ++ b ∷ []) ≡ None
  past e lt =
      let ne : (new.epoch ≡ e → ⊥) = λ q. omega arith in
      closing_of-push k e book b
      ∙ (ap (λ o. greater (closing_of k e book) o) (numbers k e ∙ rw (same_key-refl k, ne_eqb new.epoch e ne) refl) ∙ (greater-None (closing_of k e book) ∙ ends e lt))

  present_case : (key : Key) (r : Record) (s : Bool) → same_key k key ≡ s → get (put records k new) key ≡ Some r → closing_of key r.epoch (book ++ b ∷ []) ≡ Some r.last
  present_case key r true is at =
      let e : k ≡ key = same_key-true k key is in
      let o : new ≡ r = same_some (get (put records k new) k) new r (get-put_same records k new) (subst (λ j. get (put records k new) j ≡ Some r) (sym e) at) in
      rw (← e, ← o) here
  present_case key r false ne at = elsewhere key r.epoch ne ∙ h.present key r (sym (get-put_other records key k new ne) ∙ at)

  later_case : (key : Key) (r : Record) (e : ℕ) (s : Bool) → same_key k key ≡ s → get (put records k new) key ≡ Some r → r.epoch < e → closing_of key e (book ++ b ∷ []) ≡ None
  later_case key r e true is at lt =
      let q : k ≡ key = same_key-true k key is in
      let o : new ≡ r = same_some (get (put records k new) k) new r (get-put_same records k new) (subst (λ j. get (put records k new) j ≡ Some r) (sym q) at) in
      rw (← q) (past e (rw o lt))
  later_case key r e false ne at lt = elsewhere key e ne ∙ h.later key r e (sym (get-put_other records key k new ne) ∙ at) lt

  absent_case : (key : Key) (e : ℕ) (s : Bool) → same_key k key ≡ s → get (put records k new) key ≡ None → closing_of key e (book ++ b ∷ []) ≡ None
  absent_case key e true is at =
      let q : k ≡ key = same_key-true k key is in
      let found : get (put records k new) key ≡ Some new = rw (← q) (get-put_same records k new) in cc
  absent_case key e false ne at = elsewhere key e ne ∙ h.absent key e (sym (get-put_other records key k new ne) ∙ at)

  pub closed_push : Closed (put records k new) (book ++ b ∷ [])
  closed_push =
      record {
        present = λ key r at. present_case key r (same_key k key) refl at;
        later = λ key r e at lt. later_case key r e (same_key k key) refl at lt;
        absent = λ key e at. absent_case key e (same_key k key) refl at;
      }

grant_closes : (o : Option ℕ) → o ≡ None → greater o (Some 0) ≡ Some 0
grant_closes o e = rw e refl

next_closes : (o : Option ℕ) (l n : ℕ) → o ≡ Some l → n ≡ l + 1 → greater o (Some n) ≡ Some n
next_closes o l n e f = let m : max l n ≡ n = omega arith in rw (e, m) refl

-- before a Grant of the next epoch the book has nothing of that epoch, nor of a later one
before_grant : (records : Records) (book : List Booked) (key : Key) (epoch e : ℕ) (o : Option Record) → get records key ≡ o → epoch ≡ next_epoch o → epoch ≤ e → Closed records book → closing_of key e book ≡ None
before_grant records book key epoch e None at is le h = h.absent key e at
before_grant records book key epoch e (Some r) at is le h = h.later key r e at (omega arith)

-- a Put of the present epoch with the next number
pub put_case : (cells : ℕ) (records : Records) (book : List Booked) (key : Key) (epoch number : ℕ) (delta : Delta) (moment event : ℕ) (o : Option Record) → get records key ≡ o →
    fits_at epoch number (delta_within cells delta) o ≡ true → Closed records book →
    Closed (put_applied records key number delta moment o) (book ++ record { entry = Entry.Put key epoch number delta; moment = moment; event = event } ∷ [])
put_case cells records book key epoch number delta moment event None at fits h = absurd (false≢true fits)
put_case cells records book key epoch number delta moment event (Some r) at fits h =
    let same : r.epoch ≡ epoch = eqb-true r.epoch epoch (and_parts _ _ fits).0 in
    let next : number ≡ r.last + 1 = eqb-true number (r.last + 1) (and_parts _ _ (and_parts _ _ fits).1).0 in
    closed_push records book (record { entry = Entry.Put key epoch number delta; moment = moment; event = event }) key
    (record r { last = number; cells = written r.cells delta; moment = moment }) number h
    (rw same (λ j e. refl)) (next_closes (closing_of key r.epoch book) r.last number (h.present key r at) next) (λ e lt. h.later key r e at lt)

-- a Grant of the next epoch
pub grant_case : (cells : ℕ) (records : Records) (book : List Booked) (key : Key) (epoch switch inc nonce moment event : ℕ) → entry_fits cells records (Entry.Grant key epoch switch inc nonce) ≡ true → Closed records book →
    Closed (applied cells records (Entry.Grant key epoch switch inc nonce) moment) (book ++ record { entry = Entry.Grant key epoch switch inc nonce; moment = moment; event = event } ∷ [])
grant_case cells records book key epoch switch inc nonce moment event fits h =
    let is : epoch ≡ next_epoch (get records key) = eqb-true epoch (next_epoch (get records key)) fits in
    closed_push records book (record { entry = Entry.Grant key epoch switch inc nonce; moment = moment; event = event }) key
    (record { epoch = epoch; switch = switch; inc = inc; nonce = nonce; last = 0; cells = cells_of cells (get records key); moment = moment }) 0 h
    (λ j e. refl) (grant_closes (closing_of key epoch book) (before_grant records book key epoch epoch (get records key) refl is (omega arith) h))
    (λ e lt. before_grant records book key epoch e (get records key) refl is (omega arith) h)
