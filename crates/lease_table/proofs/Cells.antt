-- What the table is after a record was written in its place.
use Rattle.std.proofs.Common.{◌≡◌, ℕ, List, Option, Some, None, refl, sym, ◌∙◌, subst, true, false, Bool, length, MutBor}
use Rattle.std.specs.Option.{OnSome}
use Rattle.rp_app.specs.Application.{Delta, written}
use Rattle.proto_data.specs.declared.message.Record.{Record}
use Rattle.proto_data.specs.declared.message.Entry.{Entry}
use Rattle.key_table.specs.Table.{Key, same_key, get, put}
use Rattle.key_table.proofs.Tables.{same_key-true, get-put_same, get-put_other, same_some}
use Rattle.proto_model.specs.Records.{Records, put_applied, snap_applied}
use Rattle.lease_table.specs.Leases.{Leases, HaveCells, after_entry}

-- each record has as many cells as a flow, whatever record with as many is put
pub cells-put : (cells : ℕ) (t : Records) (k : Key) (r : Record) → HaveCells cells t → length r.cells ≡ cells → HaveCells cells (put t k r)
cells-put cells t k r h long j s has = by (same_key k j) refl
  where
    by : (b : Bool) → same_key k j ≡ b → length s.cells ≡ cells
    by true same =
        let e : k ≡ j = same_key-true k j same in
        let there : get (put t k r) j ≡ Some r = rw (sym e) (get-put_same t k r) in
        let v : r ≡ s = same_some (get (put t k r) j) r s there has in rw (sym v) long
    by false ne = h j s (sym (get-put_other t j k r ne) ∙ has)

-- what is written through a loan that was made
pub on_some : {V P : Type 0} (o : Option V) (b : V) → o ≡ Some b → OnSome o P → P
on_some None b is h = absurd cc
on_some (Some x) b is h = h

-- the same of a record that is written in place
pub cells-written : (cells : ℕ) (t lent : Records) (k : Key) (o : Option (MutBor Record)) (b : MutBor Record) (r : Record) → o ≡ Some b → OnSome o (lent ≡ put t k r) → Some b.now ≡ get t k →
    HaveCells cells t → length r.cells ≡ length b.now.cells → HaveCells cells lent
cells-written cells t lent k o b r is holds value h same =
    subst (HaveCells cells) (sym (on_some o b is holds)) (cells-put cells t k r h (same ∙ h k b.now (sym value)))

module _ (cells : ℕ) (t lent : Records) (s : Leases) (k : Key) (b : Record) (view : record { cell_count = cells; records = t } ≡ s) (value : Some b ≡ get t k) where
  pub is_granted : (epoch switch inc nonce now : ℕ) → lent ≡ put t k (record { epoch = epoch; switch = switch; inc = inc; nonce = nonce; last = 0; cells = b.cells; moment = now }) →
      record { cell_count = cells; records = lent } ≡ after_entry s (Entry.Grant k epoch switch inc nonce) now
  is_granted epoch switch inc nonce now is =
      subst (λ (s : Leases). record { cell_count = cells; records = lent } ≡ after_entry s (Entry.Grant k epoch switch inc nonce) now) view
      (rw (is, sym value) refl)

  pub is_put : (number : ℕ) (delta : Delta) (now : ℕ) (new : List ℕ) → new ≡ written b.cells delta → lent ≡ put t k (record b { last = number; cells = new; moment = now }) →
      record { cell_count = cells; records = lent } ≡ record s { records = put_applied s.records k number delta now (get s.records k) }
  is_put number delta now new made is =
      subst (λ (s : Leases). record { cell_count = cells; records = lent } ≡ record s { records = put_applied s.records k number delta now (get s.records k) }) view
      (rw (is, made, sym value) refl)

  pub is_snapped : (round : ℕ) (values : List ℕ) (now : ℕ) (new : List ℕ) → new ≡ values → lent ≡ put t k (record b { last = round; cells = new; moment = now }) →
      record { cell_count = cells; records = lent } ≡ record s { records = snap_applied s.records k round values now (get s.records k) }
  is_snapped round values now new made is =
      subst (λ (s : Leases). record { cell_count = cells; records = lent } ≡ record s { records = snap_applied s.records k round values now (get s.records k) }) view
      (rw (is, made, sym value) refl)
