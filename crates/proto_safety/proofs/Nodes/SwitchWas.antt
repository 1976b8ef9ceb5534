-- What a slot was before a step: it goes on in its lease, a lease was asked for, or a Grant was taken. And where a step's item stands.
use Rattle.std.proofs.Common.{◌≡◌, ℕ, ◌+◌, ◌≤◌, List, Option, Some, None, refl, sym, ap, ◌∙◌, subst, true, false, Bool, map, arith, eqb-true}
use Rattle.proto_data.specs.declared.message.Body.{Body}
use Rattle.rp_base.specs.declared.node.Node.{Node}
use Rattle.proto_data.specs.declared.message.Input.{Input}
use Rattle.proto_data.specs.declared.message.Carried.{Carried}
use Rattle.rp_base.specs.declared.node.Packet.{Packet}
use Rattle.rp_app.specs.Application.{Application}
use Rattle.key_table.specs.Table.{Key, Table, same_key, get, put, map_values}
use Rattle.proto_model.specs.Slot.{Slot, Idle, Asking, epoch_of, lapsed_slot}
use Rattle.proto_model.specs.SwitchState.{Switch, Item, slot_at, lapsed}
use Rattle.proto_model.specs.SwitchAlarm.{Walk, walk_order}
use Rattle.proto_model.specs.SwitchRow.{SwitchRow, NewAsk, AskAgain, Drops, Direct, Mirrored, Granted, Late, Acked, RoundDone, Denied, Busied, Resends, switch_row}
use Rattle.proto_model.specs.SwitchOutcomes.{perform, late_did}
use Rattle.proto_model.specs.SwitchRows.{switch_step}
use Rattle.key_table.proofs.Tables.{get-put_same, get-put_other, get-map_values, same_key-true, same_some}
use Rattle.proto_safety.proofs.Nodes.SwitchTable.{msg, RowTaken, Ready, fed, at_grant, at_grant_again, ask_again, no_copy_room, direct, mirrored, snapped, too_old, granted_only, late, acked, round_done, denied, busied, row_taken}
use Rattle.proto_safety.proofs.Inductions.AlarmInduction.{WalkKeeps, walk_kept}
use Rattle.proto_safety.proofs.Leasing.SlotFirsts.{acked_epoch, lapsed_epoch, lapsed_asking, has_leased, not_asking}
use Rattle.proto_safety.proofs.Serial.SlotCells.{mapped}

-- what slot v of flow k was, in these slots and with this count of nonces
pub data Was (inc nonces now : ℕ) (slots : Table Slot) (input : Input) (k : Key) (v : Slot) : Type 0 where
  -- it goes on: leased in the same epoch, or asking with the same nonce, if it is either
  goes_on :
      (old : Slot) → get slots k ≡ Some old → ((e : ℕ) → epoch_of v.lease ≡ Some e → (epoch_of old.lease ≡ Some e) × (old.last ≤ v.last)) →
      ((nonce first : ℕ) → v.lease ≡ Asking nonce first → old.lease ≡ Asking nonce first) → Was inc nonces now slots input k v
  -- it asks anew
  asks : v.lease ≡ Asking (nonces + 1) now → Was inc nonces now slots input k v
  -- it took a Grant
  takes :
      {from to : Node} {nonce first epoch : ℕ} {cells : List ℕ} {load : Option Carried} (old : Slot) → get slots k ≡ Some old → old.lease ≡ Asking nonce first →
      input ≡ msg from to (Body.Grant inc nonce epoch k cells load) → epoch_of v.lease ≡ Some epoch → Was inc nonces now slots input k v

module _ (inc nonces now : ℕ) (slots : Table Slot) (input : Input) where
  abbrev Were : Table Slot → Type 0
  Were after = (k : Key) (v : Slot) → get after k ≡ Some v → Was inc nonces now slots input k v

  unchanged : Were slots
  unchanged k v at = goes_on v at (λ e is. (is, omega arith)) (λ nonce first is. is)

  put_were : (after : Table Slot) (key : Key) (v : Slot) → Was inc nonces now slots input key v → Were after → Were (put after key v)
  put_were after key v own h k x at = key_case (same_key key k) refl
    where
      key_case : (b : Bool) → same_key key k ≡ b → Was inc nonces now slots input k x
      key_case true t =
          let e : key ≡ k = same_key-true key k t in
          let same : v ≡ x = same_some (get (put after key v) k) v x (rw (← e) (get-put_same after key v)) at in
          subst (λ (y : Slot). Was inc nonces now slots input k y) same (subst (λ (y : Key). Was inc nonces now slots input y v) e own)
      key_case false ne = h k x (sym (get-put_other after k key v ne) ∙ at)

  -- a slot that changed before keeps its lease, and its numbers don't fall
  was_more : (k : Key) (slot v : Slot) → v.lease ≡ slot.lease → slot.last ≤ v.last → Was inc nonces now slots input k slot → Was inc nonces now slots input k v
  was_more k slot v same le (goes_on old at leased asking) =
      goes_on old at
      (λ e is. let l = leased e (ap epoch_of (sym same) ∙ is) in (l.0, omega (arith, l.1, le)))
      (λ nonce first is. asking nonce first (sym same ∙ is))
  was_more k slot v same le (asks is) = asks (same ∙ is)
  was_more k slot v same le (takes old at is came leased) = takes old at is came (ap epoch_of same ∙ leased)

  walk_were : WalkKeeps now (λ w. Were w.state.slots)
  walk_were =
      record {
        puts = λ w key slot nonce epoch expiry at is mode none h. put_were w.state.slots key _ (was_more key slot _ refl (omega arith) (h key slot at)) h;
        goes_on = λ w key slot nonce epoch expiry r at is bound mode o h. put_were w.state.slots key _ (was_more key slot _ refl (omega arith) (h key slot at)) h;
        begins = λ w key slot nonce epoch expiry at is bound mode o h. put_were w.state.slots key _ (was_more key slot _ refl (omega arith) (h key slot at)) h;
      }

-- ---- rows

module _ (app : Application) (s : Switch) (now : ℕ) where
  abbrev Left : Input → Table Slot → Type 0
  Left input after = (k : Key) (v : Slot) → get after k ≡ Some v → Was s.inc s.nonces now s.slots input k v

  -- the slot of a processed packet
  ready_was : {input : Input} {key : Key} {slot : Slot} {epoch : ℕ} {p : Packet} (v : Slot) → Ready app s now input key slot epoch p → v.lease ≡ slot.lease → slot.last ≤ v.last → Was s.inc s.nonces now s.slots input key v
  ready_was {input = input} {key = key} v (fed {slot = slot} of at is) same le = was_more s.inc s.nonces now s.slots input key slot v same le (unchanged s.inc s.nonces now s.slots input key slot at)
  ready_was {key = key} v (at_grant {from = from} {to = to} {inc = inc} {nonce = nonce} {epoch = epoch} {cells = cells} {c = c} {slot = slot} t in_asked) same le =
      takes slot t.at t.asking (ap (λ (i : ℕ). msg from to (Body.Grant i nonce epoch key cells (Some c))) (eqb-true inc s.inc t.here)) (ap epoch_of same)
  ready_was {key = key} v (at_grant_again {slot = slot} i at is in_asked) same le = goes_on slot at (λ e leased. (ap epoch_of (sym same) ∙ leased, le)) (λ nonce first x. sym same ∙ x)

  one : (input : Input) (key : Key) (v : Slot) → Was s.inc s.nonces now s.slots input key v → Left input (put s.slots key v)
  one input key v own = put_were s.inc s.nonces now s.slots input s.slots key v own (unchanged s.inc s.nonces now s.slots input)

  -- a slot that keeps its epoch or its nonce
  stays : (input : Input) (key : Key) (old v : Slot) → get s.slots key ≡ Some old → ((e : ℕ) → epoch_of v.lease ≡ Some e → epoch_of old.lease ≡ Some e) → old.last ≤ v.last → ((nonce first : ℕ) → v.lease ≡ Asking nonce first → old.lease ≡ Asking nonce first) →
      Left input (put s.slots key v)
  stays input key old v at leased le asking = one input key v (goes_on old at (λ e is. (leased e is, le)) asking)

  row_left : {input : Input} (row : SwitchRow) → RowTaken app s now input row → Left input (perform s now row).0.slots
  row_left {input} (NewAsk key slot packet) f = one input key _ (asks refl)
  row_left {input} (AskAgain key slot nonce packet) (ask_again of at is young) = stays input key slot _ at (λ e l. l) (omega arith) (λ m f x. x)
  row_left {input} (Drops key slot mark cause) (no_copy_room r m full) = one input key slot (ready_was slot r refl (omega arith))
  row_left {input} (Drops key slot mark cause) (too_old r m old) = one input key slot (ready_was slot r refl (omega arith))
  row_left {input} (Direct key slot epoch mark delta out) (direct r m made clean none) = one input key _ (ready_was _ r refl (omega arith))
  row_left {input} (Direct key slot epoch mark delta out) (snapped r m made young) = one input key _ (ready_was _ r refl (omega arith))
  row_left {input} (Mirrored key slot epoch mark delta out) (mirrored r m made room dirty) = one input key _ (ready_was _ r refl (omega arith))
  row_left {input} (Granted key slot) (granted_only {from = from} {to = to} {inc = inc} {nonce = nonce} {epoch = epoch} {cells = cells} {load = load} {slot = old} t none) =
      one input key slot (takes old t.at t.asking (ap (λ (i : ℕ). msg from to (Body.Grant i nonce epoch key cells load)) (eqb-true inc s.inc t.here)) refl)
  row_left {input} (Late key slot mark) (late i at is old) = stays input key slot _ at (λ e l. let no : None ≡ Some e = l in cc) (omega arith) (λ m f x. let no : Idle ≡ Asking m f = x in cc)
  row_left {input} (Acked key slot upto load) (acked {epoch = epoch} m i at e) =
      stays input key slot _ at (λ x l. sym (acked_epoch s.terms.t_switch now slot.lease _) ∙ l) (omega arith)
      (λ nonce first is. absurd (not_asking _ epoch nonce first (acked_epoch s.terms.t_switch now slot.lease _ ∙ has_leased slot.lease epoch e) is))
  row_left {input} (RoundDone key slot r) (round_done {epoch = epoch} m i at e o n) =
      stays input key slot _ at (λ x l. sym (acked_epoch s.terms.t_switch now slot.lease (Some (0, r.begun))) ∙ l) (omega arith)
      (λ nonce first is. absurd (not_asking _ epoch nonce first (acked_epoch s.terms.t_switch now slot.lease (Some (0, r.begun)) ∙ has_leased slot.lease epoch e) is))
  row_left {input} (Denied key slot) (denied i at e) = stays input key slot _ at (λ e l. let no : None ≡ Some e = l in cc) (omega arith) (λ m f x. let no : Idle ≡ Asking m f = x in cc)
  row_left {input} (Busied key slot mark) (busied i at is in_asked) = stays input key slot _ at (λ e l. l) (omega arith) (λ m f x. x)
  row_left {input} Resends f =
      walk_kept now (λ (w : Walk). Left input w.state.slots) (walk_were s.inc s.nonces now s.slots input) (walk_order s.walked (map (λ (e : Key × Slot). e.0) s.slots)) _ (unchanged s.inc s.nonces now s.slots input)
  row_left {input} _ f = unchanged s.inc s.nonces now s.slots input

-- what the slots were before leases lapsed
lapsed_was : (inc nonces now : ℕ) (slots : Table Slot) (input : Input) (k : Key) (v : Slot) → Was inc nonces now (map_values (lapsed_slot now) slots) input k v → Was inc nonces now slots input k v
lapsed_was inc nonces now slots input k v (goes_on old at leased asking) =
    let m = mapped now (get slots k) old (sym (get-map_values (lapsed_slot now) slots k) ∙ at) in
    let last : m.0.last ≡ old.last = ap (λ (s : Slot). s.last) m.2 in
    goes_on m.0 m.1
    (λ e is. let l = leased e is in (sym (lapsed_epoch now m.0.lease) ∙ ap (λ (s : Slot). epoch_of s.lease) m.2 ∙ l.0, omega (arith, last, l.1)))
    (λ nonce first is. lapsed_asking now nonce first m.0.lease (ap (λ (s : Slot). s.lease) m.2 ∙ asking nonce first is))
lapsed_was inc nonces now slots input k v (asks is) = asks is
lapsed_was inc nonces now slots input k v (takes {nonce = nonce} {first = first} old at is came leased) =
    let m = mapped now (get slots k) old (sym (get-map_values (lapsed_slot now) slots k) ∙ at) in
    takes m.0 m.1 (lapsed_asking now nonce first m.0.lease (ap (λ (s : Slot). s.lease) m.2 ∙ is)) came leased

pub step_was : (app : Application) (s : Switch) (now : ℕ) (input : Input) (k : Key) (v : Slot) → slot_at (switch_step app s now input).0 k ≡ Some v → Was s.inc s.nonces now s.slots input k v
step_was app s now input k v at =
    lapsed_was s.inc s.nonces now s.slots input k v (row_left app (lapsed now s) now (switch_row app (lapsed now s) now input) (row_taken app (lapsed now s) now input) k v at)

-- ---- items

-- the item's slot is leased in its epoch, and its number is the slot's last
pub record ItemStands (s : Switch) (i : Item) : Type 0 where
  pub slot : Slot
  pub found : slot_at s i.key ≡ Some slot
  pub leased : epoch_of slot.lease ≡ Some i.epoch
  pub number : i.number ≡ slot.last

item_stands : (t : Switch) (x i : Item) (slot : Slot) → slot_at t x.key ≡ Some slot → epoch_of slot.lease ≡ Some x.epoch → x.number ≡ slot.last → Some x ≡ Some i → ItemStands t i
item_stands t x i slot found leased number e =
    let same : x ≡ i = cc in
    subst (λ (y : Item). ItemStands t y) same (record { slot = slot; found = found; leased = leased; number = number })

ready_leased : {app : Application} {s : Switch} {now : ℕ} {input : Input} {k : Key} {v : Slot} {x : ℕ} {p : Packet} → Ready app s now input k v x p → epoch_of v.lease ≡ Some x
ready_leased (fed of at is) = ap epoch_of is
ready_leased (at_grant t in_asked) = refl
ready_leased (at_grant_again i at is in_asked) = ap epoch_of is

no_late : (mark : Option ℕ) (i : Item) → (late_did mark).item ≡ Some i → ⊥
no_late None i e = cc
no_late (Some m) i e = cc

row_item : (app : Application) (s : Switch) (now : ℕ) {input : Input} (row : SwitchRow) → RowTaken app s now input row → (i : Item) → (perform s now row).1.item ≡ Some i → ItemStands (perform s now row).0 i
row_item app s now (Direct key slot epoch mark delta out) (direct r m made clean none) i e = item_stands _ _ i _ (get-put_same s.slots key _) (ready_leased r) refl e
row_item app s now (Direct key slot epoch mark delta out) (snapped r m made young) i e = item_stands _ _ i _ (get-put_same s.slots key _) (ready_leased r) refl e
row_item app s now (Mirrored key slot epoch mark delta out) (mirrored r m made room dirty) i e = item_stands _ _ i _ (get-put_same s.slots key _) (ready_leased r) refl e
row_item app s now (Late key slot mark) f i e = absurd (no_late mark i e)
row_item app s now _ f i e = absurd cc

pub step_item : (app : Application) (s : Switch) (now : ℕ) (input : Input) (i : Item) → (switch_step app s now input).1.item ≡ Some i → ItemStands (switch_step app s now input).0 i
step_item app s now input i e = row_item app (lapsed now s) now (switch_row app (lapsed now s) now input) (row_taken app (lapsed now s) now input) i e
