-- An Alarm keeps a switch steady: each message raises a number by one at most, and there are at most as many as slots.
use Rattle.std.proofs.Common.{◌≡◌, ℕ, ◌+◌, ◌≤◌, List, [], ◌∷◌, ◌++◌, length, map, length-append, Option, Some, None, arith, refl, sym, ap, subst, ◌∙◌, true, false, Bool}
use Rattle.std.specs.Prelude.{◌/◌, is_some, nat_lt, not, ◌&&◌, ◌||◌, if◌then◌else◌}
use Rattle.key_table.specs.Table.{Key, same_key, get, put}
use Rattle.key_table.proofs.Tables.{get-put_same}
use Rattle.proto_data.specs.declared.limits.TheConstants.{COPIES, MESSAGES, SLOTS}
use Rattle.proto_data.specs.declared.terms.Mode.{Mode}
use Rattle.proto_model.specs.Slot.{Slot, Lease, Round, Idle, Asking, Held, Lapsed}
use Rattle.proto_model.specs.SwitchState.{Switch, Copy, Begun, slot_at, has_copies}
use Rattle.proto_model.specs.SwitchAlarm.{Walk, due_copies, other_copies, ends_soon, empty_put, chunk_sent, snap_slot, strict_slot, held_slot, walked_slot, walked_key, walked_more, walked_slots, keys_to, keys_behind, walk_order, resent, alarm}
use Rattle.proto_safety.specs.Sizes.{is_leased}
use Rattle.proto_safety.proofs.Basics.Eachs.{each_all, each_append, each_in, each_made}
use Rattle.proto_safety.proofs.Basics.Lists.{length_map}
use Rattle.proto_safety.proofs.Inductions.AlarmInduction.{round_slot, new_round}
use Rattle.proto_safety.proofs.Inductions.FlowAlarm.{in_due, in_other}
use Rattle.switch_core.specs.Steady.{IsSteadySlot, IsCopyOf, IsSteady}
use Rattle.switch_core.proofs.Steady.{steady_later, steady_at, stored, replaced, put_found, copies_put, copy_at}

-- ---- copies that go again

-- after the first part: the copies that were due, and the others
pub steady_resent : (count n now age room : ℕ) (s : Switch) → IsSteady count n s → IsSteady count n (resent s now (due_copies now age room s.copies) (other_copies now age room s.copies)).state
steady_resent count n now age room s h =
    record {
      cells = h.cells;
      term = h.term;
      nonces = h.nonces;
      few = h.few;
      slots = h.slots;
      copies = each_append IsMine (other_copies now age room s.copies) (map (λ (c : Copy). record c { sent = now }) (due_copies now age room s.copies))
          (each_all IsMine (other_copies now age room s.copies) (λ c i. each_in IsMine s.copies c h.copies (in_other now age room s.copies c i)))
          (each_made IsMine (λ (c : Copy). record c { sent = now }) (due_copies now age room s.copies) (λ c i. again c (slot_at s c.key) (each_in IsMine s.copies c h.copies (in_due now age room s.copies c i))));
    }
  where
    IsMine : Copy → Type 0
    IsMine c = IsCopyOf (slot_at s c.key) c

    again : (c : Copy) (o : Option Slot) → IsCopyOf o c → IsCopyOf o (record c { sent = now })
    again c None is = is
    again c (Some slot) is = is

-- ---- one slot of the walk

module _ (count n now : ℕ) where
  abbrev IsBefore : Walk → Type 0
  IsBefore w = IsSteady count n w.state

  abbrev IsAfter : Walk → Type 0
  IsAfter w = IsSteady count (n + 1) w.state

  same_walk : (w : Walk) → IsBefore w → IsAfter w
  same_walk w h = steady_later count n (n + 1) w.state (omega arith) h

  if_after : (b : Bool) (w x : Walk) → IsAfter w → IsAfter x → IsAfter (if b then w else x)
  if_after true w x h k = h
  if_after false w x h k = k

  put_after : (w : Walk) (key : Key) (slot : Slot) (epoch : ℕ) → slot_at w.state key ≡ Some slot → is_leased slot.lease ≡ true → IsBefore w → IsAfter (empty_put w now key slot epoch)
  put_after w key slot epoch at leased h =
      stored count n w.state h w.state.nonces (w.state.copies ++ c ∷ []) w.state.walked key new (omega (arith, h.nonces)) (omega (arith, h.few, put_found w.state.slots key slot new at))
      (record { last = omega (arith, was.last); whole = record { cells_are = was.whole.cells_are } })
      (each_append (λ (d : Copy). IsCopyOf (get (put w.state.slots key new) d.key) d) w.state.copies (c ∷ [])
      (copies_put w.state.slots key new w.state.copies h.copies (λ d i of. raised d (copy_at w.state.slots key d (Some slot) at of (each_in (λ (e : Copy). IsCopyOf (slot_at w.state e.key) e) w.state.copies d h.copies i))))
      (subst (λ o. IsCopyOf o c) (sym (get-put_same w.state.slots key new)) (leased, omega arith), tt))
    where
      new : Slot
      new = record slot { last = slot.last + 1; used = false }

      c : Copy
      c = record { key = key; number = slot.last + 1; delta = []; first = now; sent = now }

      was : IsSteadySlot count n slot
      was = steady_at count n w.state key slot h at

      raised : (d : Copy) → IsCopyOf (Some slot) d → IsCopyOf (Some new) d
      raised d is = (is.0, omega (arith, is.1))

  -- a chunk goes from a slot whose number is that of before or the next one
  chunk_after : (w : Walk) (key : Key) (slot new : Slot) (epoch : ℕ) (r : Round) (begun : List Begun) → slot_at w.state key ≡ Some slot → new.lease ≡ slot.lease → new.cells ≡ slot.cells → slot.last ≤ new.last → new.last ≤ slot.last + 1 → IsBefore w →
      IsAfter (chunk_sent w key new epoch r begun)
  chunk_after w key slot new epoch r begun at lease cells up one h =
      let was : IsSteadySlot count n slot = steady_at count n w.state key slot h at in
      replaced count n w.state h w.state.copies (Some key) key slot _ at (λ c i. i) (λ l. ap is_leased lease ∙ l) up
      (record { last = omega (arith, one, was.last); whole = record { cells_are = λ l. ap (λ cs. length cs) cells ∙ was.whole.cells_are (ap is_leased (sym lease) ∙ l) } })

  snap_after : (w : Walk) (key : Key) (slot : Slot) (epoch expiry : ℕ) (o : Option Round) → slot_at w.state key ≡ Some slot → IsBefore w → IsAfter (snap_slot w now key slot epoch expiry o)
  snap_after w key slot epoch expiry (Some r) at h = chunk_after w key slot slot epoch r [] at refl refl (omega arith) (omega arith) h
  snap_after w key slot epoch expiry None at h =
      if_after (is_some slot.ages.pre || ends_soon w.state now slot expiry) _ w
      (chunk_after w key slot (round_slot slot) epoch (new_round slot now) (record { key = key; epoch = epoch; round = slot.last + 1 } ∷ []) at refl refl (omega arith) (omega arith) h) (same_walk w h)

  strict_after : (w : Walk) (key : Key) (slot : Slot) (epoch expiry : ℕ) → slot_at w.state key ≡ Some slot → is_leased slot.lease ≡ true → IsBefore w → IsAfter (strict_slot w now key slot epoch expiry)
  strict_after w key slot epoch expiry at leased h =
      if_after (nat_lt (length w.state.copies) COPIES && (not (has_copies w.state key) && ends_soon w.state now slot expiry)) _ w (put_after w key slot epoch at leased h) (same_walk w h)

  held_after : (m : Mode) (w : Walk) (key : Key) (slot : Slot) (epoch expiry : ℕ) → slot_at w.state key ≡ Some slot → is_leased slot.lease ≡ true → IsBefore w → IsAfter (held_slot m w now key slot epoch expiry)
  held_after Mode.Strict w key slot epoch expiry at leased h = strict_after w key slot epoch expiry at leased h
  held_after (Mode.Snapshot bound) w key slot epoch expiry at leased h = snap_after w key slot epoch expiry slot.round at h

  slot_after : (w : Walk) (key : Key) (slot : Slot) (lease : Lease) → slot_at w.state key ≡ Some slot → slot.lease ≡ lease → IsBefore w → IsAfter (walked_slot w now key slot lease)
  slot_after w key slot (Held nonce epoch expiry) at is h = held_after w.state.terms.mode w key slot epoch expiry at (ap is_leased is) h
  slot_after w key slot Idle at is h = same_walk w h
  slot_after w key slot (Asking nonce first) at is h = same_walk w h
  slot_after w key slot (Lapsed nonce epoch expiry) at is h = same_walk w h

  key_after : (w : Walk) (key : Key) (o : Option Slot) → slot_at w.state key ≡ o → IsBefore w → IsAfter (walked_key w now key o)
  key_after w key None at h = same_walk w h
  key_after w key (Some slot) at h = slot_after w key slot slot.lease at refl h

  -- one more slot of an Alarm's walk
  pub steady_walked : (w : Walk) (key : Key) (b : Bool) → IsSteady count n w.state → IsSteady count (n + 1) (walked_more w now key b).state
  steady_walked w key true h = key_after w key (slot_at w.state key) refl h
  steady_walked w key false h = same_walk w h

-- ---- the whole Alarm

steady_walk : (count now : ℕ) (keys : List Key) (n : ℕ) (w : Walk) → IsSteady count n w.state → IsSteady count (n + length keys) (walked_slots w now keys).state
steady_walk count now [] n w h = steady_later count n (n + 0) w.state (omega arith) h
steady_walk count now (key ∷ keys) n w h =
    let next = walked_more w now key (nat_lt (length w.sent) MESSAGES) in
    steady_later count (n + 1 + length keys) (n + length (key ∷ keys)) (walked_slots next now keys).state (omega arith)
    (steady_walk count now keys (n + 1) next (steady_walked count n now w key (nat_lt (length w.sent) MESSAGES) h))

order_parts : (key : Key) (keys : List Key) → length (keys_behind key keys) + length (keys_to key keys) ≤ length keys
order_parts key [] = omega arith
order_parts key (k ∷ ks) = part_case (same_key k key) (order_parts key ks)
  where
    part_case : (b : Bool) → length (keys_behind key ks) + length (keys_to key ks) ≤ length ks → length (if b then ks else keys_behind key ks) + length (if b then k ∷ [] else k ∷ keys_to key ks) ≤ length (k ∷ ks)
    part_case true rest = omega arith
    part_case false rest = omega (arith, rest)

order_few : (walked : Option Key) (keys : List Key) → length (walk_order walked keys) ≤ length keys
order_few None keys = omega arith
order_few (Some key) keys = omega (arith, length-append (keys_behind key keys) (keys_to key keys), order_parts key keys)

pub steady_alarm : (count n now : ℕ) (s : Switch) → IsSteady count n s → IsSteady count (n + SLOTS) (alarm s now).0
steady_alarm count n now s h =
    let keys : List Key = map (λ (e : Key × Slot). e.0) s.slots in
    let first : Walk = resent s now (due_copies now (s.terms.t_switch / 4) MESSAGES s.copies) (other_copies now (s.terms.t_switch / 4) MESSAGES s.copies) in
    steady_later count (n + length (walk_order s.walked keys)) (n + SLOTS) (alarm s now).0
    (omega (arith, h.few, order_few s.walked keys, length_map (λ (e : Key × Slot). e.0) s.slots))
    (steady_walk count now (walk_order s.walked keys) n first (steady_resent count n now (s.terms.t_switch / 4) MESSAGES s h))
