-- Each copy stands in a slot that is Held or Lapsed, with a number of at most the slot's last.
use Rattle.std.proofs.Common.{◌≡◌, ℕ, ◌+◌, ◌≤◌, List, [], ◌∷◌, ◌++◌, Option, Some, None, arith, ◌/◌, zero, suc, refl, ap, ◌∙◌, true, false, Bool, map}
use Rattle.std.specs.Prelude.{filter, not, if◌then◌else◌, option_map, nat_le, nat_lt}
use Rattle.std.proofs.lemmas.Bool.{both_ways}
use Rattle.proto_data.specs.declared.message.Input.{Input}
use Rattle.rp_app.specs.Application.{Application}
use Rattle.key_table.specs.Table.{Key, Table, same_key, get, put, map_values}
use Rattle.proto_model.specs.Slot.{Slot, Lease, Idle, Asking, Held, Lapsed, lapsed_slot, extended, lapsed_lease}
use Rattle.proto_model.specs.SwitchState.{Switch, Copy, is_of, is_covered, lapsed}
use Rattle.proto_model.specs.SwitchRow.{SwitchRow, NewAsk, AskAgain, Drops, Direct, Mirrored, Granted, Late, Acked, RoundDone, Denied, Busied, Resends, switch_row}
use Rattle.proto_model.specs.SwitchOutcomes.{perform, acked_lease}
use Rattle.proto_model.specs.SwitchRows.{switch_step}
use Rattle.proto_model.specs.SwitchAlarm.{alarm, Walk, due_copies, other_copies, is_due, walk_order}
use Rattle.proto_safety.proofs.Inductions.AlarmInduction.{WalkKeeps, walk_kept}
use Rattle.proto_model.specs.Feeds.{Each}
use Rattle.proto_safety.specs.Sizes.{is_leased}
use Rattle.key_table.proofs.Tables.{get-put_same, get-put_other, get-map_values, same_key-true, same_key-sym, same_some}
use Rattle.proto_safety.proofs.Store.SwitchFits.{SwitchFits, Prepared, was_held, was_asking, forgot, aged, row_fits, ask_again, drops, direct, mirrored, granted_only, acked, round_done, busied}
use Rattle.proto_safety.proofs.Basics.Eachs.{each_append, each_filter, each_if, each_weaker}

-- the copy's slot
pub record HasSlot (slots : Table Slot) (c : Copy) : Type 0 where
  pub slot : Slot
  pub found : get slots c.key ≡ Some slot
  pub number : c.number ≤ slot.last
  pub leased : is_leased slot.lease ≡ true

abbrev pub CopiesFit : Table Slot → List Copy → Type 0
CopiesFit slots copies = Each (HasSlot slots) copies

-- ---- the changes that rows are made of

-- another slot's change leaves a copy its slot
other_slot : (slots : Table Slot) (key : Key) (slot : Slot) (c : Copy) → same_key key c.key ≡ false → HasSlot slots c → HasSlot (put slots key slot) c
other_slot slots key slot c ne h = record { slot = h.slot; found = get-put_other slots c.key key slot ne ∙ h.found; number = h.number; leased = h.leased }

-- what a slot's change has to keep
pub record SlotKeeps (old slot : Slot) : Type 0 where
  pub last : old.last ≤ slot.last
  pub leased : is_leased old.lease ≡ true → is_leased slot.lease ≡ true

changed_copy : (slots : Table Slot) (key : Key) (old slot : Slot) (c : Copy) → get slots key ≡ Some old → SlotKeeps old slot → HasSlot slots c → (b : Bool) → same_key key c.key ≡ b →
    HasSlot (put slots key slot) c
changed_copy slots key old slot c at keeps k true is =
    let e : key ≡ c.key = same_key-true key c.key is in
    let o : old ≡ k.slot = same_some (get slots key) old k.slot at (ap (λ j. get slots j) e ∙ k.found) in
    record {
      slot = slot;
      found = rw (← e) (get-put_same slots key slot);
      number = omega (arith, ap (λ (s : Slot). s.last) o, k.number, keeps.last);
      leased = keeps.leased (ap (λ (s : Slot). is_leased s.lease) o ∙ k.leased);
    }
changed_copy slots key old slot c at keeps k false ne = other_slot slots key slot c ne k

-- a slot that keeps its lease and its numbers keeps its copies
slot_changed : (slots : Table Slot) (key : Key) (old slot : Slot) (copies : List Copy) → get slots key ≡ Some old → SlotKeeps old slot → CopiesFit slots copies → CopiesFit (put slots key slot) copies
slot_changed slots key old slot copies at keeps h =
    each_weaker (HasSlot slots) (HasSlot (put slots key slot)) copies (λ c k. changed_copy slots key old slot c at keeps k (same_key key c.key) refl) h

-- a slot without copies may change in any way
given_up : (slots : Table Slot) (key : Key) (slot : Slot) (copies : List Copy) → CopiesFit slots copies → CopiesFit (put slots key slot) (filter (λ c. not (is_of key c)) copies)
given_up slots key slot [] h = tt
given_up slots key slot (c ∷ cs) h = given_one slots key slot c cs h.0 (given_up slots key slot cs h.1) (same_key c.key key) refl
  where
    given_one : (slots : Table Slot) (key : Key) (slot : Slot) (c : Copy) (cs : List Copy) → HasSlot slots c → CopiesFit (put slots key slot) (filter (λ c. not (is_of key c)) cs) → (b : Bool) → same_key c.key key ≡ b →
        CopiesFit (put slots key slot) (if not b then c ∷ filter (λ c. not (is_of key c)) cs else filter (λ c. not (is_of key c)) cs)
    given_one slots key slot c cs k rest true is = rest
    given_one slots key slot c cs k rest false ne = (other_slot slots key slot c (same_key-sym key c.key ∙ ne) k, rest)

-- fewer copies
fewer : (slots : Table Slot) (p : Copy → Bool) (copies : List Copy) → CopiesFit slots copies → CopiesFit slots (filter p copies)
fewer slots p copies h = each_filter (HasSlot slots) p copies h

-- one more copy, of a slot in its epoch
one_more : (slots : Table Slot) (c : Copy) (copies : List Copy) → HasSlot slots c → CopiesFit slots copies → CopiesFit slots (copies ++ c ∷ [])
one_more slots c copies k h = each_append (HasSlot slots) copies (c ∷ []) h (k, tt)

begun_copy : (slots : Table Slot) (key : Key) (old slot : Slot) (c : Copy) → get slots key ≡ Some old → is_leased old.lease ≡ false → HasSlot slots c → (b : Bool) → same_key key c.key ≡ b →
    HasSlot (put slots key slot) c
begun_copy slots key old slot c at idle k true is =
    let e : key ≡ c.key = same_key-true key c.key is in
    let o : old ≡ k.slot = same_some (get slots key) old k.slot at (ap (λ j. get slots j) e ∙ k.found) in
    absurd (both_ways (is_leased old.lease) idle (ap (λ (s : Slot). is_leased s.lease) o ∙ k.leased))
begun_copy slots key old slot c at idle k false ne = other_slot slots key slot c ne k

-- a key without a leased slot has no copies, so a new lease may begin
begun : (slots : Table Slot) (key : Key) (old slot : Slot) (copies : List Copy) → get slots key ≡ Some old → is_leased old.lease ≡ false → CopiesFit slots copies → CopiesFit (put slots key slot) copies
begun slots key old slot copies at idle h =
    each_weaker (HasSlot slots) (HasSlot (put slots key slot)) copies (λ c k. begun_copy slots key old slot c at idle k (same_key key c.key) refl) h

pub still_leased : (now : ℕ) (lease : Lease) → is_leased lease ≡ true → is_leased (lapsed_lease now lease) ≡ true
still_leased now Idle h = h
still_leased now (Asking nonce first) h = h
still_leased now (Held nonce epoch expiry) h = lapse_case (nat_le expiry now) nonce epoch expiry
  where
    lapse_case : (b : Bool) (nonce epoch expiry : ℕ) → is_leased (if b then Lapsed nonce epoch expiry else Held nonce epoch expiry) ≡ true
    lapse_case true nonce epoch expiry = refl
    lapse_case false nonce epoch expiry = refl
still_leased now (Lapsed nonce epoch expiry) h = h

-- leases that ended are Lapsed, and keep their copies
pub same_lease : (slots : Table Slot) (now : ℕ) (copies : List Copy) → CopiesFit slots copies → CopiesFit (map_values (lapsed_slot now) slots) copies
same_lease slots now copies h = each_weaker (HasSlot slots) (HasSlot (map_values (lapsed_slot now) slots)) copies
    (λ c k. record { slot = lapsed_slot now k.slot; found = get-map_values (lapsed_slot now) slots c.key ∙ ap (λ o. option_map (lapsed_slot now) o) k.found; number = k.number; leased = still_leased now k.slot.lease k.leased }) h

-- ---- rows

prepared_leased : {s : Switch} {now : ℕ} {key : Key} {slot : Slot} {epoch : ℕ} → Prepared s now key slot epoch → is_leased slot.lease ≡ true
prepared_leased (was_held at is) = ap is_leased is
prepared_leased (was_asking at is young) = refl
prepared_leased (forgot mark p) = prepared_leased p
prepared_leased (aged ages p) = prepared_leased p

-- a slot that processes a packet may be stored with any number from its own on
prepared_stored : (s : Switch) (now : ℕ) (key : Key) (later : Slot) → {slot : Slot} {epoch : ℕ} → Prepared s now key slot epoch → slot.last ≤ later.last → is_leased later.lease ≡ true → CopiesFit s.slots s.copies →
    CopiesFit (put s.slots key later) s.copies
prepared_stored s now key later (was_held {slot = slot} at is) le leased h = slot_changed s.slots key slot later s.copies at (record { last = le; leased = λ _. leased }) h
prepared_stored s now key later (was_asking {slot = slot} at is young) le leased h = begun s.slots key slot later s.copies at (ap is_leased is) h
prepared_stored s now key later (forgot mark p) le leased h = prepared_stored s now key later p le leased h
prepared_stored s now key later (aged ages p) le leased h = prepared_stored s now key later p le leased h

pub extended_leased : (t now sent : ℕ) (lease : Lease) → is_leased lease ≡ true → is_leased (extended t now sent lease) ≡ true
extended_leased t now sent Idle h = h
extended_leased t now sent (Asking nonce first) h = h
extended_leased t now sent (Held nonce epoch expiry) h = refl
extended_leased t now sent (Lapsed nonce epoch expiry) h = renew_case (nat_lt now (sent + t)) nonce epoch expiry (sent + t)
  where
    renew_case : (b : Bool) (nonce epoch expiry later : ℕ) → is_leased (if b then Held nonce epoch later else Lapsed nonce epoch expiry) ≡ true
    renew_case true nonce epoch expiry later = refl
    renew_case false nonce epoch expiry later = refl

pub acked_leased : (t now : ℕ) (lease : Lease) (best : Option (ℕ × ℕ)) → is_leased lease ≡ true → is_leased (acked_lease t now lease best) ≡ true
acked_leased t now lease None h = h
acked_leased t now lease (Some b) h = extended_leased t now b.1 lease h

abbrev pub Fit : Switch → Type 0
Fit s = CopiesFit s.slots s.copies

-- ---- an Alarm

abbrev FitWalk : Walk → Type 0
FitWalk w = Fit w.state

walk_keeps : (now : ℕ) → WalkKeeps now FitWalk
walk_keeps now =
    record {
      puts = λ w key slot nonce epoch expiry at is mode none h.
          one_more _ (record { key = key; number = slot.last + 1; delta = []; first = now; sent = now }) w.state.copies
          (record { slot = record slot { last = slot.last + 1; used = false }; found = get-put_same w.state.slots key _; number = omega arith; leased = ap is_leased is })
          (slot_changed w.state.slots key slot _ w.state.copies at (record { last = omega arith; leased = λ l. l }) h);
      goes_on = λ w key slot nonce epoch expiry r at is bound mode o h. slot_changed w.state.slots key slot _ w.state.copies at (record { last = omega arith; leased = λ l. l }) h;
      begins = λ w key slot nonce epoch expiry at is bound mode o h. slot_changed w.state.slots key slot _ w.state.copies at (record { last = omega arith; leased = λ l. l }) h;
    }

due_fit : (slots : Table Slot) (now age room : ℕ) (copies : List Copy) → CopiesFit slots copies → CopiesFit slots (due_copies now age room copies)
due_fit slots now age room [] h = tt
due_fit slots now age zero (c ∷ cs) h = tt
due_fit slots now age (suc room) (c ∷ cs) h =
    each_if (HasSlot slots) (is_due now age c) _ _ (h.0, due_fit slots now age room cs h.1) (due_fit slots now age (suc room) cs h.1)

others_fit : (slots : Table Slot) (now age room : ℕ) (copies : List Copy) → CopiesFit slots copies → CopiesFit slots (other_copies now age room copies)
others_fit slots now age room [] h = tt
others_fit slots now age zero (c ∷ cs) h = h
others_fit slots now age (suc room) (c ∷ cs) h =
    each_if (HasSlot slots) (is_due now age c) _ _ (others_fit slots now age room cs h.1) (h.0, others_fit slots now age (suc room) cs h.1)

stamped_fit : (slots : Table Slot) (now : ℕ) (copies : List Copy) → CopiesFit slots copies → CopiesFit slots (map (λ (c : Copy). record c { sent = now }) copies)
stamped_fit slots now [] h = tt
stamped_fit slots now (c ∷ cs) h = (record { slot = h.0.slot; found = h.0.found; number = h.0.number; leased = h.0.leased }, stamped_fit slots now cs h.1)

alarm_copies : (s : Switch) (now : ℕ) → Fit s → Fit (alarm s now).0
alarm_copies s now h =
    walk_kept now FitWalk (walk_keeps now) (walk_order s.walked (map (λ (e : Key × Slot). e.0) s.slots)) _
    (each_append (HasSlot s.slots) (other_copies now (s.terms.t_switch / 4) 64 s.copies) _ (others_fit s.slots now (s.terms.t_switch / 4) 64 s.copies h)
    (stamped_fit s.slots now (due_copies now (s.terms.t_switch / 4) 64 s.copies) (due_fit s.slots now (s.terms.t_switch / 4) 64 s.copies h)))

row_copies : (app : Application) (s : Switch) (now : ℕ) {input : Input} (row : SwitchRow) → SwitchFits app s now input row → Fit s → Fit (perform s now row).0
row_copies app s now (NewAsk key slot packet) f h = given_up s.slots key _ s.copies h
row_copies app s now (AskAgain key slot nonce packet) (ask_again of at is) h = slot_changed s.slots key slot _ s.copies at (record { last = omega arith; leased = λ l. l }) h
row_copies app s now (Drops key slot mark cause) (drops p) h = prepared_stored s now key slot p (omega arith) (prepared_leased p) h
row_copies app s now (Direct key slot epoch mark delta out) (direct p) h = prepared_stored s now key _ p (omega arith) (prepared_leased p) h
row_copies app s now (Mirrored key slot epoch mark delta out) (mirrored p) h =
    one_more _ (record { key = key; number = slot.last + 1; delta = delta; first = now; sent = now }) s.copies
    (record { slot = _; found = get-put_same s.slots key _; number = omega arith; leased = prepared_leased p })
    (prepared_stored s now key _ p (omega arith) (prepared_leased p) h)
row_copies app s now (Granted key slot) (granted_only p) h = prepared_stored s now key slot p (omega arith) (prepared_leased p) h
row_copies app s now (Late key slot mark) f h = given_up s.slots key _ s.copies h
row_copies app s now (Acked key slot upto load) (acked epoch at e) h =
    slot_changed s.slots key slot _ _ at (record { last = omega arith; leased = λ l. acked_leased s.terms.t_switch now slot.lease _ l })
    (fewer s.slots (λ c. not (is_covered key upto c)) s.copies h)
row_copies app s now (RoundDone key slot r) (round_done epoch at e is) h =
    slot_changed s.slots key slot _ _ at (record { last = omega arith; leased = λ l. extended_leased s.terms.t_switch now r.begun slot.lease l }) h
row_copies app s now (Denied key slot) f h = given_up s.slots key _ s.copies h
row_copies app s now (Busied key slot mark) (busied at is) h = slot_changed s.slots key slot _ s.copies at (record { last = omega arith; leased = λ l. l }) h
row_copies app s now Resends f h = alarm_copies s now h
row_copies app s now _ f h = h

-- one step
pub step_copies : (app : Application) (s : Switch) (now : ℕ) (input : Input) → Fit s → Fit (switch_step app s now input).0
step_copies app s now input h = row_copies app (lapsed now s) now (switch_row app (lapsed now s) now input) (row_fits app (lapsed now s) now input) (same_lease s.slots now s.copies h)
