-- What a steady switch knows of a slot and its copies, and what keeps it steady when one slot is stored.
use Rattle.std.proofs.Common.{◌≡◌, ℕ, ◌+◌, ◌≤◌, List, [], ◌∷◌, length, Option, Some, None, arith, refl, sym, ap, ◌∙◌, subst, true, false, Bool, filter}
use Rattle.std.specs.Prelude.{not, nat_le, option_map, if◌then◌else◌, All}
use Rattle.std.proofs.lemmas.Bool.{both_ways, not-true}
use Rattle.std.proofs.lemmas.List.Elements.{All-from_recursion}
use Rattle.key_table.specs.Table.{Key, Table, same_key, get, put, map_values}
use Rattle.key_table.proofs.Tables.{get-map_values, get-put_same, get-put_other, same_key-true, same_key-sym}
use Rattle.proto_data.specs.declared.limits.TheConstants.{SLOTS}
use Rattle.proto_data.specs.declared.message.Config.{Config}
use Rattle.proto_data.specs.declared.terms.Terms.{Terms}
use Rattle.proto_model.specs.Feeds.{Each}
use Rattle.proto_model.specs.Slot.{Slot, Lease, Idle, Asking, Held, Lapsed, lapsed_slot, lapsed_lease}
use Rattle.proto_model.specs.SwitchState.{Switch, Copy, open_switch, slot_at, with_slot, lapsed, is_of}
use Rattle.proto_safety.specs.Books.{In}
use Rattle.proto_safety.specs.Sizes.{is_leased}
use Rattle.proto_safety.proofs.Basics.Eachs.{each_all, each_in, each_weaker}
use Rattle.proto_safety.proofs.Basics.Members.{in_filter}
use Rattle.proto_safety.proofs.Serial.SlotCells.{lapsed_was_leased}
use Rattle.proto_safety.proofs.Size.SizesOf.{each_put, each_get, each_values}
use Rattle.switch_core.specs.Steady.{IsSteadySlot, IsCopyOf, IsSteady}

-- ---- a switch as it is

-- one that opens
pub steady_open : (count me inc : ℕ) (terms : Terms) (config : Config) → count ≤ 256 → terms.t_switch ≤ 1000000 → IsSteady count 0 (open_switch me inc terms config)
steady_open count me inc terms config cells term = record { cells = cells; term = term; nonces = omega arith; few = omega arith; slots = tt; copies = tt }

pub slot_later : (count m n : ℕ) (slot : Slot) → m ≤ n → IsSteadySlot count m slot → IsSteadySlot count n slot
slot_later count m n slot le h = record { last = omega (arith, le, h.last); whole = h.whole }

-- with a greater bound on its numbers
pub steady_later : (count m n : ℕ) (s : Switch) → m ≤ n → IsSteady count m s → IsSteady count n s
steady_later count m n s le h =
    record {
      cells = h.cells;
      term = h.term;
      nonces = omega (arith, le, h.nonces);
      few = h.few;
      slots = each_weaker _ _ s.slots (λ e is. slot_later count m n e.1 le is) h.slots;
      copies = h.copies;
    }

-- a lease that has ended is still one
pub leased_lapsed : (now : ℕ) (lease : Lease) → is_leased lease ≡ true → is_leased (lapsed_lease now lease) ≡ true
leased_lapsed now Idle h = h
leased_lapsed now (Asking nonce first) h = h
leased_lapsed now (Held nonce epoch expiry) h = lapse_case (nat_le expiry now)
  where
    lapse_case : (b : Bool) → is_leased (if b then Lapsed nonce epoch expiry else Held nonce epoch expiry) ≡ true
    lapse_case true = refl
    lapse_case false = refl
leased_lapsed now (Lapsed nonce epoch expiry) h = refl

lapsed_copy : (now : ℕ) (o : Option Slot) (c : Copy) → IsCopyOf o c → IsCopyOf (option_map (lapsed_slot now) o) c
lapsed_copy now None c h = h
lapsed_copy now (Some slot) c h = (leased_lapsed now slot.lease h.0, h.1)

length_values : (f : Slot → Slot) (t : Table Slot) → length (map_values f t) ≡ length t
length_values f [] = refl
length_values f (e ∷ es) = omega (arith, length_values f es)

-- when leases have lapsed
pub steady_lapsed : (count n now : ℕ) (s : Switch) → IsSteady count n s → IsSteady count n (lapsed now s)
steady_lapsed count n now s h =
    record {
      cells = h.cells;
      term = h.term;
      nonces = h.nonces;
      few = omega (arith, h.few, length_values (lapsed_slot now) s.slots);
      slots = each_values (λ k slot. IsSteadySlot count n slot) (lapsed_slot now) s.slots
          (λ k slot is. record { last = is.last; whole = record { cells_are = λ l. is.whole.cells_are (lapsed_was_leased now slot.lease l) } }) h.slots;
      copies = each_weaker _ _ s.copies
          (λ c is. subst (λ o. IsCopyOf o c) (sym (get-map_values (lapsed_slot now) s.slots c.key)) (lapsed_copy now (slot_at s c.key) c is)) h.copies;
    }

-- ---- one slot and its copies

pub steady_at : (count n : ℕ) (s : Switch) (key : Key) (slot : Slot) → IsSteady count n s → slot_at s key ≡ Some slot → IsSteadySlot count n slot
steady_at count n s key slot h at = each_get (λ k x. IsSteadySlot count n x) s.slots key slot at h.slots

-- a copy of a key is one of the slot there
pub copy_at : (slots : Table Slot) (key : Key) (c : Copy) (o : Option Slot) → get slots key ≡ o → is_of key c ≡ true → IsCopyOf (get slots c.key) c → IsCopyOf o c
copy_at slots key c o at of h = subst (λ x. IsCopyOf x c) (ap (λ k. get slots k) (same_key-true c.key key of) ∙ at) h

-- where the lease isn't granted there are none
no_copy : (slot : Slot) (c : Copy) → is_leased slot.lease ≡ false → IsCopyOf (Some slot) c → ⊥
no_copy slot c none h = both_ways (is_leased slot.lease) none h.0

pub copies_below : (count n : ℕ) (s : Switch) (key : Key) (slot : Slot) → IsSteady count n s → slot_at s key ≡ Some slot → All (λ (c : Copy). is_of key c ≡ true → c.number ≤ slot.last) s.copies
copies_below count n s key slot h at =
    All-from_recursion (λ (c : Copy). is_of key c ≡ true → c.number ≤ slot.last) s.copies
    (each_weaker (λ (c : Copy). IsCopyOf (slot_at s c.key) c) (λ (c : Copy). is_of key c ≡ true → c.number ≤ slot.last) s.copies (λ c is of. (copy_at s.slots key c (Some slot) at of is).1) h.copies)

pub no_copies_unleased : (count n : ℕ) (s : Switch) (key : Key) (slot : Slot) → IsSteady count n s → slot_at s key ≡ Some slot → is_leased slot.lease ≡ false → All (λ (c : Copy). is_of key c ≡ true → ⊥) s.copies
no_copies_unleased count n s key slot h at none =
    All-from_recursion (λ (c : Copy). is_of key c ≡ true → ⊥) s.copies
    (each_weaker (λ (c : Copy). IsCopyOf (slot_at s c.key) c) (λ (c : Copy). is_of key c ≡ true → ⊥) s.copies (λ c is of. no_copy slot c none (copy_at s.slots key c (Some slot) at of is)) h.copies)

pub no_copies_absent : (count n : ℕ) (s : Switch) (key : Key) → IsSteady count n s → slot_at s key ≡ None → All (λ (c : Copy). is_of key c ≡ true → ⊥) s.copies
no_copies_absent count n s key h at =
    All-from_recursion (λ (c : Copy). is_of key c ≡ true → ⊥) s.copies
    (each_weaker (λ (c : Copy). IsCopyOf (slot_at s c.key) c) (λ (c : Copy). is_of key c ≡ true → ⊥) s.copies (λ c is of. copy_at s.slots key c None at of is) h.copies)

-- ---- a slot that is stored

pub put_found : (t : Table Slot) (key : Key) (old new : Slot) → get t key ≡ Some old → length (put t key new) ≡ length t
put_found [] key old new at = cc
put_found (e ∷ es) key old new at = put_case (same_key e.0 key) (put_found es key old new) at
  where
    put_case : (b : Bool) → (get es key ≡ Some old → length (put es key new) ≡ length es) → (if b then Some e.1 else get es key) ≡ Some old → length (if b then (key, new) ∷ es else e ∷ put es key new) ≡ length (e ∷ es)
    put_case true rest is = refl
    put_case false rest is = omega (arith, rest is)

pub put_more : (t : Table Slot) (key : Key) (new : Slot) → length (put t key new) ≤ length t + 1
put_more [] key new = omega arith
put_more (e ∷ es) key new = put_case (same_key e.0 key) (put_more es key new)
  where
    put_case : (b : Bool) → length (put es key new) ≤ length es + 1 → length (if b then (key, new) ∷ es else e ∷ put es key new) ≤ length (e ∷ es) + 1
    put_case true rest = omega arith
    put_case false rest = omega (arith, rest)

-- copies of the other keys are those of their slots as before
pub copies_put : (slots : Table Slot) (key : Key) (new : Slot) (cs : List Copy) → Each (λ (c : Copy). IsCopyOf (get slots c.key) c) cs → ((c : Copy) → In cs c → is_of key c ≡ true → IsCopyOf (Some new) c) →
    Each (λ (c : Copy). IsCopyOf (get (put slots key new) c.key) c) cs
copies_put slots key new cs h own = each_all _ cs (λ c i. key_case c i (same_key c.key key) refl)
  where
    key_case : (c : Copy) → In cs c → (b : Bool) → same_key c.key key ≡ b → IsCopyOf (get (put slots key new) c.key) c
    key_case c i true of =
        let same : c.key ≡ key = same_key-true c.key key of in
        subst (λ o. IsCopyOf o c) (sym (ap (λ k. get (put slots key new) k) same ∙ get-put_same slots key new)) (own c i of)
    key_case c i false ne =
        subst (λ o. IsCopyOf o c) (sym (get-put_other slots c.key key new (same_key-sym key c.key ∙ ne))) (each_in (λ (d : Copy). IsCopyOf (get slots d.key) d) cs c h i)

-- copies of this key were given up
pub none_kept : (key : Key) (cs : List Copy) (c : Copy) → In (filter (λ d. not (is_of key d)) cs) c → is_of key c ≡ true → ⊥
none_kept key cs c i of = both_ways (is_of key c) (not-true (is_of key c) (in_filter (λ d. not (is_of key d)) cs c i).1) of

module _ (count n : ℕ) (s : Switch) (h : IsSteady count n s) where
  -- a slot is stored, with these copies, and what it is without numbers
  pub stored : (nonces : ℕ) (copies : List Copy) (walked : Option Key) (key : Key) (new : Slot) → nonces ≤ n + 1 → length (put s.slots key new) ≤ SLOTS → IsSteadySlot count (n + 1) new →
      Each (λ (c : Copy). IsCopyOf (get (put s.slots key new) c.key) c) copies → IsSteady count (n + 1) (with_slot (record s { nonces = nonces; copies = copies; walked = walked }) key new)
  stored nonces copies walked key new low few is cs =
      record {
        cells = h.cells;
        term = h.term;
        nonces = low;
        few = few;
        slots = each_put (λ k x. IsSteadySlot count (n + 1) x) s.slots key new is (steady_later count n (n + 1) s (omega arith) h).slots;
        copies = cs;
      }

  -- in place of one of the same lease or a later one, with some of the copies
  pub replaced : (copies : List Copy) (walked : Option Key) (key : Key) (old new : Slot) → slot_at s key ≡ Some old → ((c : Copy) → In copies c → In s.copies c) →
      (is_leased old.lease ≡ true → is_leased new.lease ≡ true) → old.last ≤ new.last → IsSteadySlot count (n + 1) new → IsSteady count (n + 1) (with_slot (record s { copies = copies; walked = walked }) key new)
  replaced copies walked key old new at some leased up is =
      let mine : Each (λ (c : Copy). IsCopyOf (slot_at s c.key) c) copies = each_all _ copies (λ c i. each_in (λ (d : Copy). IsCopyOf (slot_at s d.key) d) s.copies c h.copies (some c i)) in
      stored s.nonces copies walked key new (omega (arith, h.nonces)) (omega (arith, h.few, put_found s.slots key old new at)) is
      (copies_put s.slots key new copies mine
      (λ c i of.
      let was : IsCopyOf (Some old) c = copy_at s.slots key c (Some old) at of (each_in (λ (d : Copy). IsCopyOf (slot_at s d.key) d) s.copies c h.copies (some c i)) in
      (leased was.0, omega (arith, was.1, up))))

  -- in place of one without copies
  pub unleased_copies : (key : Key) (old : Slot) → slot_at s key ≡ Some old → is_leased old.lease ≡ false → (c : Copy) → In s.copies c → is_of key c ≡ true → ⊥
  unleased_copies key old at none c i of = no_copy old c none (copy_at s.slots key c (Some old) at of (each_in (λ (d : Copy). IsCopyOf (slot_at s d.key) d) s.copies c h.copies i))
