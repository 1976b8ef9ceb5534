-- A mark that waits in a `held` ring: how a switch's step changes the ring, and how long the mark stays.
use Rattle.std.proofs.Common.{◌≡◌, ℕ, ◌+◌, ◌≤◌, ◌<◌, List, [], ◌∷◌, ◌++◌, length, map, filter, Option, Some, None, arith, refl, sym, ap, ◌∙◌, subst, true, false, Bool, append_assoc, length-append, eq-eqb}
use Rattle.std.specs.Prelude.{◌==◌, ◌&&◌, ◌||◌, if◌then◌else◌, nat_lt, drop}
use Rattle.std.proofs.lemmas.Bool.{both_ways, lt-ltb}
use Rattle.std.proofs.lemmas.List.{map-append}
use Rattle.proto_data.specs.declared.message.Msg.{Msg}
use Rattle.proto_data.specs.declared.message.Input.{Input}
use Rattle.proto_data.specs.declared.message.Carried.{Carried}
use Rattle.rp_app.specs.Application.{Application}
use Rattle.proto_data.specs.Carrying.{output_of}
use Rattle.proto_model.specs.Ring.{Ring, holds, remembers, remember, forget}
use Rattle.proto_data.specs.declared.limits.TheConstants.{MARKS}
use Rattle.proto_model.specs.Slot.{Slot, epoch_of, lapsed_slot}
use Rattle.proto_model.specs.Straight.{enters_held, from_switch}
use Rattle.proto_model.specs.SwitchOutcomes.{perform}
use Rattle.proto_model.specs.SwitchAlarm.{Walk, walk_order}
use Rattle.proto_model.specs.SwitchRow.{SwitchRow, NewAsk, AskAgain, Drops, Direct, Mirrored, Granted, Late, Acked, RoundDone, Denied, Busied, Resends, switch_row}
use Rattle.proto_model.specs.SwitchRows.{switch_step}
use Rattle.proto_model.specs.SwitchState.{Switch, SwitchDid, slot_at, lapsed}
use Rattle.key_table.specs.Table.{Key, Table, same_key, get, put, map_values}
use Rattle.proto_safety.proofs.Inductions.AlarmInduction.{WalkKeeps, walk_kept}
use Rattle.proto_safety.proofs.Serial.SlotCells.{mapped}
use Rattle.proto_safety.proofs.Packets.SwitchMarks.{ready_marks}
use Rattle.proto_safety.proofs.Nodes.SwitchTable.{RowTaken, ask_again, no_copy_room, too_old, direct, snapped, mirrored, granted_only, acked, round_done, busied, row_taken}
use Rattle.key_table.proofs.Tables.{get-put_same, get-put_other, get-map_values, same_key-true, same_key-refl, same_some}
use Rattle.proto_safety.proofs.Basics.Lists.{length_map}

-- ---- a mark in a ring

-- the mark stands there, with at most so many places behind it
pub record Waits (ring : Ring) (mark many : ℕ) : Type 0 where
  pub front : Ring
  pub behind : Ring
  pub is : ring ≡ front ++ Some mark ∷ behind
  pub few : length behind ≤ many

remembers_there : (front behind : Ring) (m : ℕ) → remembers (front ++ Some m ∷ behind) m ≡ true
remembers_there [] behind m = rw (eq-eqb m m refl) refl
remembers_there (x ∷ front) behind m = place_case (holds m x) (remembers_there front behind m)
  where
    place_case : (b : Bool) → remembers (front ++ Some m ∷ behind) m ≡ true → (b || remembers (front ++ Some m ∷ behind) m) ≡ true
    place_case true h = refl
    place_case false h = h

pub waits_there : {ring : Ring} {m k : ℕ} → Waits ring m k → remembers ring m ≡ true
waits_there {m = m} h = ap (λ r. remembers r m) h.is ∙ remembers_there h.front h.behind m

pub waits_longer : {ring : Ring} {m k j : ℕ} → k ≤ j → Waits ring m k → Waits ring m j
waits_longer le h = record { front = h.front; behind = h.behind; is = h.is; few = omega (arith, h.few, le) }

-- the mark that came last
pub waits_last : (ring : Ring) (m : ℕ) → Waits (remember ring m) m 0
waits_last ring m = room_case (nat_lt (length ring) MARKS)
  where
    room_case : (b : Bool) → Waits (if b then ring ++ Some m ∷ [] else drop 1 ring ++ Some m ∷ []) m 0
    room_case true = record { front = ring; behind = []; is = refl; few = omega arith }
    room_case false = record { front = drop 1 ring; behind = []; is = refl; few = omega arith }

-- another mark comes
pub waits_pushed : (ring : Ring) (m n k : ℕ) → k + 1 < 64 → Waits ring m k → Waits (remember ring n) m (k + 1)
waits_pushed ring m n k lt h = subst (λ r. Waits (remember r n) m (k + 1)) (sym h.is) (front_case h.front)
  where
    longer : length (h.behind ++ Some n ∷ []) ≤ k + 1
    longer = omega (arith, h.few, length-append h.behind (Some n ∷ []))

    room_case : (x : Option ℕ) (front : Ring) (b : Bool) → Waits (if b then (x ∷ front ++ Some m ∷ h.behind) ++ Some n ∷ [] else drop 1 (x ∷ front ++ Some m ∷ h.behind) ++ Some n ∷ []) m (k + 1)
    room_case x front true = record { front = x ∷ front; behind = h.behind ++ Some n ∷ []; is = append_assoc (x ∷ front) (Some m ∷ h.behind) (Some n ∷ []); few = longer }
    room_case x front false = record { front = front; behind = h.behind ++ Some n ∷ []; is = append_assoc front (Some m ∷ h.behind) (Some n ∷ []); few = longer }

    none_case : (b : Bool) → nat_lt (length (Some m ∷ h.behind)) MARKS ≡ b → Waits (if b then (Some m ∷ h.behind) ++ Some n ∷ [] else drop 1 (Some m ∷ h.behind) ++ Some n ∷ []) m (k + 1)
    none_case true room = record { front = []; behind = h.behind ++ Some n ∷ []; is = refl; few = longer }
    none_case false full = absurd (both_ways _ full (lt-ltb (length (Some m ∷ h.behind)) 64 (omega (arith, h.few, lt))))

    front_case : (front : Ring) → Waits (remember (front ++ Some m ∷ h.behind) n) m (k + 1)
    front_case [] = none_case (nat_lt (length (Some m ∷ h.behind)) MARKS) refl
    front_case (x ∷ front) = room_case x front (nat_lt (length (x ∷ front ++ Some m ∷ h.behind)) MARKS)

-- another mark is forgotten
pub waits_forgotten : (ring : Ring) (m n k : ℕ) → (m == n) ≡ false → Waits ring m k → Waits (forget ring n) m k
waits_forgotten ring m n k ne h =
    record {
      front = forget h.front n;
      behind = forget h.behind n;
      is = ap (λ r. forget r n) h.is ∙ (map-append (λ place. if holds n place then None else place) h.front (Some m ∷ h.behind) ∙ rw ne refl);
      few = omega (arith, h.few, length_map (λ place. if holds n place then None else place) h.behind);
    }

-- ---- a switch's step

-- the messages of switch s that bring a mark into the flow's `held` ring
abbrev pub entered : ℕ → Key → List Msg → ℕ
entered s key ms = length (filter (λ (m : Msg). from_switch s m.from && enters_held key m.from m.body) ms)

-- what the ring of this slot of the flow was, in these slots
pub data HeldWas (me : ℕ) (slots : Table Slot) (did : SwitchDid) (key : Key) (v : Slot) : Type 0 where
  stays : (old : Slot) → get slots key ≡ Some old → v.held ≡ old.held → HeldWas me slots did key v
  gains : (old : Slot) (m : ℕ) → get slots key ≡ Some old → v.held ≡ remember old.held m → 1 ≤ entered me key did.sent → HeldWas me slots did key v
  loses : (old : Slot) (c : Carried) → get slots key ≡ Some old → v.held ≡ forget old.held c.mark → (remembers old.held c.mark ≡ true → did.released ≡ Some (output_of c)) → HeldWas me slots did key v
  given_up : epoch_of v.lease ≡ None → HeldWas me slots did key v

module _ (app : Application) (s : Switch) (now : ℕ) where
  abbrev Were : SwitchDid → Table Slot → Type 0
  Were did after = (k : Key) (v : Slot) → get after k ≡ Some v → HeldWas s.me s.slots did k v

  unchanged : (did : SwitchDid) → Were did s.slots
  unchanged did k v at = stays v at refl

  one : (did : SwitchDid) (key : Key) (v : Slot) → HeldWas s.me s.slots did key v → Were did (put s.slots key v)
  one did key v own k x at = key_case (same_key key k) refl
    where
      key_case : (b : Bool) → same_key key k ≡ b → HeldWas s.me s.slots did k x
      key_case true t =
          let e : key ≡ k = same_key-true key k t in
          let same : v ≡ x = same_some (get (put s.slots key v) k) v x (rw (← e) (get-put_same s.slots key v)) at in
          subst (λ (y : Slot). HeldWas s.me s.slots did k y) same (subst (λ (y : Key). HeldWas s.me s.slots did y v) e own)
      key_case false ne = stays x (sym (get-put_other s.slots k key v ne) ∙ at) refl

  -- an Alarm leaves the rings alone
  abbrev Same : Walk → Type 0
  Same w = (k : Key) (v : Slot) → get w.state.slots k ≡ Some v → (old : Slot) × ((get s.slots k ≡ Some old) × (v.held ≡ old.held))

  same_put : (slots : Table Slot) (key : Key) (slot v : Slot) → get slots key ≡ Some slot → v.held ≡ slot.held → ((k : Key) (x : Slot) → get slots k ≡ Some x → (old : Slot) × ((get s.slots k ≡ Some old) × (x.held ≡ old.held))) →
      (k : Key) (x : Slot) → get (put slots key v) k ≡ Some x → (old : Slot) × ((get s.slots k ≡ Some old) × (x.held ≡ old.held))
  same_put slots key slot v there held h k x at = key_case (same_key key k) refl
    where
      key_case : (b : Bool) → same_key key k ≡ b → (old : Slot) × ((get s.slots k ≡ Some old) × (x.held ≡ old.held))
      key_case true t =
          let e : key ≡ k = same_key-true key k t in
          let same : v ≡ x = same_some (get (put slots key v) k) v x (rw (← e) (get-put_same slots key v)) at in
          let o = h k slot (ap (λ j. get slots j) (sym e) ∙ there) in (o.0, (o.1.0, ap (λ (y : Slot). y.held) (sym same) ∙ (held ∙ o.1.1)))
      key_case false ne = h k x (sym (get-put_other slots k key v ne) ∙ at)

  walk_same : WalkKeeps now Same
  walk_same =
      record {
        puts = λ w key slot nonce epoch expiry at is mode none h. same_put w.state.slots key slot _ at refl h;
        goes_on = λ w key slot nonce epoch expiry r at is bound mode o h. same_put w.state.slots key slot _ at refl h;
        begins = λ w key slot nonce epoch expiry at is bound mode o h. same_put w.state.slots key slot _ at refl h;
      }

  alarm_were : (did : SwitchDid) → Were did (perform s now Resends).0.slots
  alarm_were did k v at =
      let o = walk_kept now Same walk_same (walk_order s.walked (map (λ (e : Key × Slot). e.0) s.slots)) _ (λ k v at. (v, (at, refl))) k v at in stays o.0 o.1.0 o.1.1

  row_were : {input : Input} (row : SwitchRow) → RowTaken app s now input row → Were (perform s now row).1 (perform s now row).0.slots
  row_were {input} (NewAsk key slot packet) f = one _ key _ (given_up refl)
  row_were {input} (AskAgain key slot nonce packet) (ask_again of at is young) = one _ key _ (stays slot at refl)
  row_were {input} (Drops key slot mark cause) (no_copy_room r m full) = let o = ready_marks app s now r in one _ key slot (stays o.old o.at o.held)
  row_were {input} (Drops key slot mark cause) (too_old r m old) = let o = ready_marks app s now r in one _ key slot (stays o.old o.at o.held)
  row_were {input} (Direct key slot epoch mark delta out) (direct r m made clean none) = let o = ready_marks app s now r in one _ key _ (stays o.old o.at o.held)
  row_were {input} (Direct key slot epoch mark delta out) (snapped r m made young) = let o = ready_marks app s now r in one _ key _ (stays o.old o.at o.held)
  row_were {input} (Mirrored key slot epoch mark delta None) (mirrored r m made room dirty) = let o = ready_marks app s now r in one _ key _ (stays o.old o.at o.held)
  row_were {input} (Mirrored key slot epoch mark delta (Some out)) (mirrored r m made room dirty) =
      let o = ready_marks app s now r in one _ key _ (gains o.old out.mark o.at (ap (λ ring. remember ring out.mark) o.held) (rw (eq-eqb s.me s.me refl, same_key-refl key) (omega arith)))
  row_were {input} (Granted key slot) (granted_only {slot = old} t none) = one _ key _ (stays old t.at refl)
  row_were {input} (Late key slot mark) f = one _ key _ (given_up refl)
  row_were {input} (Acked key slot upto None) (acked m i at e) = one _ key _ (stays slot at refl)
  row_were {input} (Acked key slot upto (Some c)) (acked m i at e) = one _ key _ (loses slot c at refl (λ there. rw there refl))
  row_were {input} (RoundDone key slot r) (round_done m i at e o n) = one _ key _ (stays slot at refl)
  row_were {input} (Denied key slot) f = one _ key _ (given_up refl)
  row_were {input} (Busied key slot mark) (busied i at is in_asked) = one _ key _ (stays slot at refl)
  row_were {input} Resends f = alarm_were _
  row_were {input} _ f = unchanged _

-- what the ring was before leases lapsed
lapsed_held : (me now : ℕ) (slots : Table Slot) (did : SwitchDid) (k : Key) (v : Slot) → HeldWas me (map_values (lapsed_slot now) slots) did k v → HeldWas me slots did k v
lapsed_held me now slots did k v (stays old at held) =
    let m = mapped now (get slots k) old (sym (get-map_values (lapsed_slot now) slots k) ∙ at) in stays m.0 m.1 (held ∙ ap (λ (x : Slot). x.held) (sym m.2))
lapsed_held me now slots did k v (gains old n at held some) =
    let m = mapped now (get slots k) old (sym (get-map_values (lapsed_slot now) slots k) ∙ at) in gains m.0 n m.1 (held ∙ ap (λ (x : Slot). remember x.held n) (sym m.2)) some
lapsed_held me now slots did k v (loses old c at held out) =
    let m = mapped now (get slots k) old (sym (get-map_values (lapsed_slot now) slots k) ∙ at) in
    loses m.0 c m.1 (held ∙ ap (λ (x : Slot). forget x.held c.mark) (sym m.2)) (λ there. out (ap (λ (x : Slot). remembers x.held c.mark) (sym m.2) ∙ there))
lapsed_held me now slots did k v (given_up is) = given_up is

pub step_held : (app : Application) (s : Switch) (now : ℕ) (input : Input) (k : Key) (v : Slot) → slot_at (switch_step app s now input).0 k ≡ Some v → HeldWas s.me s.slots (switch_step app s now input).1 k v
step_held app s now input k v at =
    lapsed_held s.me now s.slots _ k v (row_were app (lapsed now s) now (switch_row app (lapsed now s) now input) (row_taken app (lapsed now s) now input) k v at)
