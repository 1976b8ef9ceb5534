-- Where a leased slot's lease comes from in one step: it is the lease before, a Grant gave it, or an Ack kept it.
use Rattle.std.proofs.Common.{◌≡◌, ◌⊎◌, inl, inr, ℕ, ◌+◌, List, Option, Some, None, refl, sym, ap, ◌∙◌, subst, true, false, Bool, map, eqb-true}
use Rattle.std.specs.Prelude.{fold, filter, if◌then◌else◌, nat_le}
use Rattle.proto_data.specs.declared.message.Body.{Body}
use Rattle.rp_base.specs.declared.node.Node.{Node}
use Rattle.proto_data.specs.declared.message.Input.{Input}
use Rattle.proto_data.specs.declared.message.Carried.{Carried}
use Rattle.rp_base.specs.declared.node.Packet.{Packet}
use Rattle.rp_app.specs.Application.{Application}
use Rattle.key_table.specs.Table.{Key, Table, same_key, get, put, map_values}
use Rattle.proto_model.specs.Slot.{Slot, Lease, Round, Idle, Asking, Held, Lapsed, epoch_of, lapsed_lease, lapsed_slot, extended}
use Rattle.proto_model.specs.SwitchState.{Switch, Copy, slot_at, is_covered, greatest_first, lapsed}
use Rattle.proto_model.specs.SwitchAlarm.{Walk, walk_order}
use Rattle.proto_model.specs.SwitchRow.{SwitchRow, NewAsk, AskAgain, Drops, Direct, Mirrored, Granted, Late, Acked, RoundDone, Denied, Busied, Resends, switch_row}
use Rattle.proto_model.specs.SwitchOutcomes.{perform, acked_lease}
use Rattle.proto_model.specs.SwitchRows.{switch_step}
use Rattle.key_table.proofs.Tables.{get-put_same, get-put_other, get-map_values, same_key-true, same_some}
use Rattle.proto_safety.proofs.Nodes.SwitchTable.{msg, RowTaken, Ready, fed, at_grant, at_grant_again, ask_again, no_copy_room, direct, mirrored, snapped, too_old, granted_only, acked, round_done, busied, row_taken}
use Rattle.proto_safety.proofs.Inductions.AlarmInduction.{WalkKeeps, walk_kept}
use Rattle.proto_safety.proofs.Serial.SlotCells.{mapped}
use Rattle.proto_safety.proofs.Leasing.SlotFirsts.{has_leased, lapsed_epoch, lapsed_asking}

-- the lease l, or none that is leased
abbrev pub NotLeased : Lease → Type 0
NotLeased l = epoch_of l ≡ None

-- Where the lease of flow k comes from, in a step at `now` with this term; `l` is the lease before it, but for its end.
pub data Since (inc t now : ℕ) (slots : Table Slot) (copies : List Copy) (input : Input) (k : Key) (l : Lease) : Type 0 where
  idle : NotLeased l → Since inc t now slots copies input k l
  kept : (old : Slot) → get slots k ≡ Some old → (l ≡ old.lease) ⊎ (l ≡ lapsed_lease now old.lease) → Since inc t now slots copies input k l
  took :
      {from to : Node} {nonce first epoch : ℕ} {cells : List ℕ} {load : Option Carried} (old : Slot) → get slots k ≡ Some old → old.lease ≡ Asking nonce first →
      input ≡ msg from to (Body.Grant inc nonce epoch k cells load) → l ≡ Held nonce epoch (first + t) → Since inc t now slots copies input k l
  kept_by :
      {from to : Node} {epoch upto : ℕ} {load : Option Carried} (old : Slot) → get slots k ≡ Some old → epoch_of old.lease ≡ Some epoch → input ≡ msg from to (Body.Ack inc epoch upto k load) →
      (l ≡ acked_lease t now old.lease (fold greatest_first None (filter (is_covered k upto) copies))) ⊎ (l ≡ acked_lease t now (lapsed_lease now old.lease) (fold greatest_first None (filter (is_covered k upto) copies))) →
      Since inc t now slots copies input k l
  kept_by_round :
      {from to : Node} {epoch upto : ℕ} {load : Option Carried} (old : Slot) (r : Round) → get slots k ≡ Some old → epoch_of old.lease ≡ Some epoch → old.round ≡ Some r → r.number ≡ upto → input ≡ msg from to (Body.Ack inc epoch upto k load) →
      (l ≡ extended t now r.begun old.lease) ⊎ (l ≡ extended t now r.begun (lapsed_lease now old.lease)) → Since inc t now slots copies input k l

module _ (inc t now : ℕ) (slots : Table Slot) (copies : List Copy) (input : Input) where
  abbrev All : Table Slot → Type 0
  All after = (k : Key) (v : Slot) → get after k ≡ Some v → Since inc t now slots copies input k v.lease

  unchanged : All slots
  unchanged k v at = kept v at (inl refl)

  put_since : (after : Table Slot) (key : Key) (v : Slot) → Since inc t now slots copies input key v.lease → All after → All (put after key v)
  put_since after key v own h k x at = key_case (same_key key k) refl
    where
      key_case : (b : Bool) → same_key key k ≡ b → Since inc t now slots copies input k x.lease
      key_case true is =
          let e : key ≡ k = same_key-true key k is in
          let same : v ≡ x = same_some (get (put after key v) k) v x (rw (← e) (get-put_same after key v)) at in
          subst (λ (y : Slot). Since inc t now slots copies input k y.lease) same (subst (λ (y : Key). Since inc t now slots copies input y v.lease) e own)
      key_case false ne = h k x (sym (get-put_other after k key v ne) ∙ at)

  walk_since : WalkKeeps now (λ w. All w.state.slots)
  walk_since =
      record {
        puts = λ w key slot nonce epoch expiry at is mode none h. put_since w.state.slots key _ (h key slot at) h;
        goes_on = λ w key slot nonce epoch expiry r at is bound mode o h. put_since w.state.slots key _ (h key slot at) h;
        begins = λ w key slot nonce epoch expiry at is bound mode o h. put_since w.state.slots key _ (h key slot at) h;
      }

-- ---- rows

module _ (app : Application) (s : Switch) (now : ℕ) where
  abbrev Left : Input → Table Slot → Type 0
  Left input after = (k : Key) (v : Slot) → get after k ≡ Some v → Since s.inc s.terms.t_switch now s.slots s.copies input k v.lease

  one : (input : Input) (key : Key) (v : Slot) → Since s.inc s.terms.t_switch now s.slots s.copies input key v.lease → Left input (put s.slots key v)
  one input key v own = put_since s.inc s.terms.t_switch now s.slots s.copies input s.slots key v own (unchanged s.inc s.terms.t_switch now s.slots s.copies input)

  ready_since : {input : Input} {key : Key} {slot : Slot} {epoch : ℕ} {p : Packet} → Ready app s now input key slot epoch p → Since s.inc s.terms.t_switch now s.slots s.copies input key slot.lease
  ready_since (fed {slot = slot} of at is) = kept slot at (inl refl)
  ready_since (at_grant {from = from} {to = to} {inc = inc} {nonce = nonce} {epoch = epoch} {key = key} {cells = cells} {c = c} {slot = slot} t in_asked) =
      took slot t.at t.asking (ap (λ (i : ℕ). msg from to (Body.Grant i nonce epoch key cells (Some c))) (eqb-true inc s.inc t.here)) refl
  ready_since (at_grant_again {slot = slot} i at is in_asked) = kept slot at (inl refl)

  row_since : {input : Input} (row : SwitchRow) → RowTaken app s now input row → Left input (perform s now row).0.slots
  row_since {input} (NewAsk key slot packet) f = one input key _ (idle refl)
  row_since {input} (AskAgain key slot nonce packet) (ask_again of at is young) = one input key _ (kept slot at (inl refl))
  row_since {input} (Drops key slot mark cause) (no_copy_room r m full) = one input key slot (ready_since r)
  row_since {input} (Drops key slot mark cause) (too_old r m old) = one input key slot (ready_since r)
  row_since {input} (Direct key slot epoch mark delta out) (direct r m made clean none) = one input key _ (ready_since r)
  row_since {input} (Direct key slot epoch mark delta out) (snapped r m made young) = one input key _ (ready_since r)
  row_since {input} (Mirrored key slot epoch mark delta out) (mirrored r m made room dirty) = one input key _ (ready_since r)
  row_since {input} (Granted key slot) (granted_only {from = from} {to = to} {inc = inc} {nonce = nonce} {epoch = epoch} {cells = cells} {load = load} {slot = old} t none) =
      one input key slot (took old t.at t.asking (ap (λ (i : ℕ). msg from to (Body.Grant i nonce epoch key cells load)) (eqb-true inc s.inc t.here)) refl)
  row_since {input} (Late key slot mark) f = one input key _ (idle refl)
  row_since {input} (Acked key slot upto load) (acked {from = from} {to = to} {inc = inc} {epoch = epoch} m i at e) =
      one input key _ (kept_by slot at (has_leased slot.lease epoch e) (ap (λ (x : ℕ). msg from to (Body.Ack x epoch upto key load)) (eqb-true inc s.inc i)) (inl refl))
  row_since {input} (RoundDone key slot r) (round_done {from = from} {to = to} {inc = inc} {epoch = epoch} {upto = upto} {load = load} m i at e o n) =
      one input key _ (kept_by_round slot r at (has_leased slot.lease epoch e) o (eqb-true r.number upto n) (ap (λ (x : ℕ). msg from to (Body.Ack x epoch upto key load)) (eqb-true inc s.inc i)) (inl refl))
  row_since {input} (Denied key slot) f = one input key _ (idle refl)
  row_since {input} (Busied key slot mark) (busied i at is in_asked) = one input key _ (kept slot at (inl refl))
  row_since {input} Resends f =
      walk_kept now (λ (w : Walk). Left input w.state.slots) (walk_since s.inc s.terms.t_switch now s.slots s.copies input) (walk_order s.walked (map (λ (e : Key × Slot). e.0) s.slots)) _ (unchanged s.inc s.terms.t_switch now s.slots s.copies input)
  row_since {input} _ f = unchanged s.inc s.terms.t_switch now s.slots s.copies input

-- ---- before leases lapsed

pub lapsed_twice : (now : ℕ) (x : Lease) → lapsed_lease now (lapsed_lease now x) ≡ lapsed_lease now x
lapsed_twice now (Held nonce epoch expiry) = held_case (nat_le expiry now) refl
  where
    held_case : (c : Bool) → nat_le expiry now ≡ c → lapsed_lease now (if c then Lapsed nonce epoch expiry else Held nonce epoch expiry) ≡ (if c then Lapsed nonce epoch expiry else Held nonce epoch expiry)
    held_case true e = refl
    held_case false e = rw e refl
lapsed_twice now Idle = refl
lapsed_twice now (Asking nonce first) = refl
lapsed_twice now (Lapsed nonce epoch expiry) = refl

lapsed_since : (inc t now : ℕ) (slots : Table Slot) (copies : List Copy) (input : Input) (k : Key) (l : Lease) → Since inc t now (map_values (lapsed_slot now) slots) copies input k l → Since inc t now slots copies input k l
lapsed_since inc t now slots copies input k l (idle none) = idle none
lapsed_since inc t now slots copies input k l (kept old at is) =
    let m = mapped now (get slots k) old (sym (get-map_values (lapsed_slot now) slots k) ∙ at) in
    let lease : old.lease ≡ lapsed_lease now m.0.lease = ap (λ (s : Slot). s.lease) (sym m.2) in
    kept m.0 m.1 (inr (lease_case m.0.lease old.lease lease is))
  where
    lease_case : (x y : Lease) → y ≡ lapsed_lease now x → (l ≡ y) ⊎ (l ≡ lapsed_lease now y) → l ≡ lapsed_lease now x
    lease_case x y e (inl f) = f ∙ e
    lease_case x y e (inr f) = f ∙ ap (lapsed_lease now) e ∙ lapsed_twice now x
lapsed_since inc t now slots copies input k l (took {nonce = nonce} {first = first} old at is came lease) =
    let m = mapped now (get slots k) old (sym (get-map_values (lapsed_slot now) slots k) ∙ at) in
    took m.0 m.1 (lapsed_asking now nonce first m.0.lease (ap (λ (s : Slot). s.lease) m.2 ∙ is)) came lease
lapsed_since inc t now slots copies input k l (kept_by {epoch = epoch} {upto = upto} old at is came lease) =
    let m = mapped now (get slots k) old (sym (get-map_values (lapsed_slot now) slots k) ∙ at) in
    let e : old.lease ≡ lapsed_lease now m.0.lease = ap (λ (s : Slot). s.lease) (sym m.2) in
    kept_by m.0 m.1 (sym (lapsed_epoch now m.0.lease) ∙ ap epoch_of (sym e) ∙ is) came (inr (lease_case m.0.lease old.lease e lease))
  where
    best : Option (ℕ × ℕ)
    best = fold greatest_first None (filter (is_covered k upto) copies)

    lease_case : (x y : Lease) → y ≡ lapsed_lease now x → (l ≡ acked_lease t now y best) ⊎ (l ≡ acked_lease t now (lapsed_lease now y) best) → l ≡ acked_lease t now (lapsed_lease now x) best
    lease_case x y e (inl f) = f ∙ ap (λ (z : Lease). acked_lease t now z best) e
    lease_case x y e (inr f) = f ∙ ap (λ (z : Lease). acked_lease t now z best) (ap (lapsed_lease now) e ∙ lapsed_twice now x)
lapsed_since inc t now slots copies input k l (kept_by_round {epoch = epoch} old r at is runs number came lease) =
    let m = mapped now (get slots k) old (sym (get-map_values (lapsed_slot now) slots k) ∙ at) in
    let e : old.lease ≡ lapsed_lease now m.0.lease = ap (λ (s : Slot). s.lease) (sym m.2) in
    kept_by_round m.0 r m.1 (sym (lapsed_epoch now m.0.lease) ∙ ap epoch_of (sym e) ∙ is) (ap (λ (s : Slot). s.round) m.2 ∙ runs) number came (inr (lease_case m.0.lease old.lease e lease))
  where
    lease_case : (x y : Lease) → y ≡ lapsed_lease now x → (l ≡ extended t now r.begun y) ⊎ (l ≡ extended t now r.begun (lapsed_lease now y)) → l ≡ extended t now r.begun (lapsed_lease now x)
    lease_case x y e (inl f) = f ∙ ap (λ (z : Lease). extended t now r.begun z) e
    lease_case x y e (inr f) = f ∙ ap (λ (z : Lease). extended t now r.begun z) (ap (lapsed_lease now) e ∙ lapsed_twice now x)

pub step_since : (app : Application) (s : Switch) (now : ℕ) (input : Input) (k : Key) (v : Slot) → slot_at (switch_step app s now input).0 k ≡ Some v → Since s.inc s.terms.t_switch now s.slots s.copies input k v.lease
step_since app s now input k v at =
    lapsed_since s.inc s.terms.t_switch now s.slots s.copies input k v.lease (row_since app (lapsed now s) now (switch_row app (lapsed now s) now input) (row_taken app (lapsed now s) now input) k v at)
