-- What each message of an Alarm's walk keeps is kept by the walk.
use Rattle.std.proofs.Common.{◌≡◌, ℕ, ◌+◌, List, [], ◌∷◌, length, Option, Some, None, refl, true, false, Bool}
use Rattle.std.specs.Prelude.{nat_lt, is_some, if◌then◌else◌, ◌||◌, ◌&&◌, not}
use Rattle.std.proofs.lemmas.Bool.{and_parts, not-true}
use Rattle.proto_data.specs.declared.terms.Mode.{Mode}
use Rattle.key_table.specs.Table.{Key}
use Rattle.proto_model.specs.Slot.{Slot, Lease, Held, Round}
use Rattle.proto_model.specs.SwitchState.{slot_at, has_copies}
use Rattle.proto_model.specs.SwitchAlarm.{Walk, empty_put, chunk_sent, snap_slot, held_slot, walked_slot, walked_key, walked_more, walked_slots, ends_soon}

-- the round that a slot begins
abbrev pub new_round : Slot → ℕ → Round
new_round slot now = record { number = slot.last + 1; begun = now; chunk = 0; cells = slot.cells }

abbrev pub round_slot : Slot → Slot
round_slot slot = record slot { last = slot.last + 1; used = false }

pub record WalkKeeps (now : ℕ) (J : Walk → Type 0) : Type 0 where
  pub puts :
      (w : Walk) (key : Key) (slot : Slot) (nonce epoch expiry : ℕ) → slot_at w.state key ≡ Some slot → slot.lease ≡ Held nonce epoch expiry →
      w.state.terms.mode ≡ Mode.Strict → has_copies w.state key ≡ false → J w → J (empty_put w now key slot epoch)
  pub goes_on :
      (w : Walk) (key : Key) (slot : Slot) (nonce epoch expiry : ℕ) (r : Round) → slot_at w.state key ≡ Some slot → slot.lease ≡ Held nonce epoch expiry →
      (bound : ℕ) → w.state.terms.mode ≡ Mode.Snapshot bound → slot.round ≡ Some r → J w → J (chunk_sent w key slot epoch r [])
  pub begins :
      (w : Walk) (key : Key) (slot : Slot) (nonce epoch expiry : ℕ) → slot_at w.state key ≡ Some slot → slot.lease ≡ Held nonce epoch expiry →
      (bound : ℕ) → w.state.terms.mode ≡ Mode.Snapshot bound → slot.round ≡ None → J w → J (chunk_sent w key (round_slot slot) epoch (new_round slot now) (record { key = key; epoch = epoch; round = slot.last + 1 } ∷ []))

module _ (now : ℕ) (J : Walk → Type 0) (k : WalkKeeps now J) where
  -- a test chooses between two walks
  if_kept : (b : Bool) (w x : Walk) → (b ≡ true → J w) → (b ≡ false → J x) → J (if b then w else x)
  if_kept true w x p q = p refl
  if_kept false w x p q = q refl

  snap_kept : (w : Walk) (key : Key) (slot : Slot) (nonce epoch expiry : ℕ) (o : Option Round) → slot_at w.state key ≡ Some slot → slot.lease ≡ Held nonce epoch expiry → (bound : ℕ) → w.state.terms.mode ≡ Mode.Snapshot bound → slot.round ≡ o →
      J w → J (snap_slot w now key slot epoch expiry o)
  snap_kept w key slot nonce epoch expiry (Some r) at is bound mode o h = k.goes_on w key slot nonce epoch expiry r at is bound mode o h
  snap_kept w key slot nonce epoch expiry None at is bound mode o h =
      if_kept (is_some slot.ages.pre || ends_soon w.state now slot expiry) _ w (λ _. k.begins w key slot nonce epoch expiry at is bound mode o h) (λ _. h)

  held_kept : (m : Mode) (w : Walk) (key : Key) (slot : Slot) (nonce epoch expiry : ℕ) → w.state.terms.mode ≡ m → slot_at w.state key ≡ Some slot → slot.lease ≡ Held nonce epoch expiry → J w → J (held_slot m w now key slot epoch expiry)
  held_kept Mode.Strict w key slot nonce epoch expiry mode at is h =
      if_kept (nat_lt (length w.state.copies) 1024 && (not (has_copies w.state key) && ends_soon w.state now slot expiry)) _ w
      (λ t. k.puts w key slot nonce epoch expiry at is mode (not-true _ (and_parts _ _ (and_parts _ _ t).1).0) h) (λ _. h)
  held_kept (Mode.Snapshot bound) w key slot nonce epoch expiry mode at is h = snap_kept w key slot nonce epoch expiry slot.round at is bound mode refl h

  slot_kept : (w : Walk) (key : Key) (slot : Slot) (lease : Lease) → slot_at w.state key ≡ Some slot → slot.lease ≡ lease → J w → J (walked_slot w now key slot lease)
  slot_kept w key slot (Held nonce epoch expiry) at is h = held_kept w.state.terms.mode w key slot nonce epoch expiry refl at is h
  slot_kept w key slot _ at is h = h

  key_kept : (w : Walk) (key : Key) (o : Option Slot) → slot_at w.state key ≡ o → J w → J (walked_key w now key o)
  key_kept w key None at h = h
  key_kept w key (Some slot) at h = slot_kept w key slot slot.lease at refl h

  more_kept : (w : Walk) (key : Key) (room : Bool) → J w → J (walked_more w now key room)
  more_kept w key true h = key_kept w key (slot_at w.state key) refl h
  more_kept w key false h = h

  pub walk_kept : (keys : List Key) (w : Walk) → J w → J (walked_slots w now keys)
  walk_kept [] w h = h
  walk_kept (key ∷ keys) w h = walk_kept keys (walked_more w now key (nat_lt (length w.sent) 64)) (more_kept w key (nat_lt (length w.sent) 64) h)
