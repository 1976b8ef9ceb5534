-- Each message of a switch's step says what the switch is after the step.
use Rattle.std.proofs.Common.{◌≡◌, ℕ, ◌+◌, List, [], ◌∷◌, ◌++◌, map, Option, Some, None, refl, sym, ◌∙◌, ap, subst, true, false, Bool, inl, inr}
use Rattle.std.specs.Prelude.{◌/◌}
use Rattle.rp_base.specs.declared.node.Node.{Node}
use Rattle.std.proofs.lemmas.Bool.{false≢true}
use Rattle.proto_data.specs.declared.message.Msg.{Msg}
use Rattle.proto_data.specs.declared.message.Body.{Body}
use Rattle.proto_data.specs.declared.message.Input.{Input}
use Rattle.rp_app.specs.Application.{Application}
use Rattle.proto_model.specs.Feeds.{Each}
use Rattle.key_table.specs.Table.{Key, Table, same_key, get, put}
use Rattle.proto_model.specs.Slot.{Slot, Lease, Round, Idle, Asking, Held, Lapsed, epoch_of, is_young, lapsed_slot}
use Rattle.proto_model.specs.SwitchState.{Switch, Copy, slot_at, lapsed}
use Rattle.proto_model.specs.SwitchRow.{SwitchRow, NewAsk, AskAgain, Mirrored, Late, Resends, switch_row}
use Rattle.proto_model.specs.SwitchOutcomes.{perform}
use Rattle.proto_model.specs.SwitchAlarm.{Walk, due_copies, other_copies, epoch_at, resent_put, repeated_ask, repeated_asks, resent, alarm, walk_order}
use Rattle.proto_model.specs.SwitchRows.{switch_step}
use Rattle.proto_safety.specs.Books.{In}
use Rattle.proto_safety.specs.SwitchSent.{SaysNow, SentNow}
use Rattle.key_table.proofs.Tables.{same_key-true, get-put_same, get-put_other, same_some}
use Rattle.proto_safety.proofs.Basics.TableKeys.{KeysDiffer, differ_map, member_found}
use Rattle.proto_safety.specs.Sizes.{is_leased}
use Rattle.proto_safety.proofs.Leasing.Copies.{HasSlot, Fit, same_lease}
use Rattle.proto_safety.proofs.Inductions.AlarmInduction.{WalkKeeps, walk_kept}
use Rattle.proto_safety.proofs.Inductions.FlowMoves.{ready_held, chunk_slot}
use Rattle.proto_safety.proofs.Inductions.FlowAlarm.{in_due}
use Rattle.proto_safety.proofs.Nodes.SwitchTable.{RowTaken, row_taken, ask_again, mirrored}
use Rattle.proto_safety.proofs.Basics.Eachs.{each_append, each_if, each_in, each_made, each_take, each_weaker}
use Rattle.proto_safety.proofs.Basics.Members.{in_front, to_append, to_map}

-- ---- a slot that keeps its lease and its round keeps what was said of it

pub record SlotGoesOn (old new : Slot) : Type 0 where
  pub lease : new.lease ≡ old.lease
  pub round : (r : Round) → old.round ≡ Some r → (q : Round) × ((new.round ≡ Some q) × ((q.number ≡ r.number) × (q.cells ≡ r.cells)))

-- a switch whose slots go on, and whose copies are all there
pub record GoesOn (s t : Switch) : Type 0 where
  pub me : t.me ≡ s.me
  pub inc : t.inc ≡ s.inc
  pub slots : (key : Key) (old : Slot) → slot_at s key ≡ Some old → (new : Slot) × ((slot_at t key ≡ Some new) × SlotGoesOn old new)
  pub copies : (c : Copy) → In s.copies c → In t.copies c

says_later : (s t : Switch) (body : Body) → GoesOn s t → SaysNow s body → SaysNow t body
says_later s t (Body.Ask inc nonce key load) g h =
    let n = g.slots key h.slot h.found in
    record { here = h.here ∙ sym g.inc; slot = n.0; found = n.1.0; first = h.first; asking = n.1.1.lease ∙ h.asking }
says_later s t (Body.Put inc epoch number key delta load) g h =
    let n = g.slots key h.slot h.found in
    record {
      here = h.here ∙ sym g.inc;
      slot = n.0;
      found = n.1.0;
      leased = ap epoch_of n.1.1.lease ∙ h.leased;
      copy = h.copy;
      there = g.copies h.copy h.there;
      key_is = h.key_is;
      number_is = h.number_is;
      delta_is = h.delta_is;
    }
says_later s t (Body.Snap inc epoch round key chunk chunks cells) g h =
    let n = g.slots key h.slot h.found in
    let q = n.1.1.round h.running h.round_is in
    record {
      here = h.here ∙ sym g.inc;
      slot = n.0;
      found = n.1.0;
      leased = ap epoch_of n.1.1.lease ∙ h.leased;
      running = q.0;
      round_is = q.1.0;
      number_is = q.1.1.0 ∙ h.number_is;
      chunks_are = rw q.1.1.1 h.chunks_are;
      cells_are = rw q.1.1.1 h.cells_are;
    }
says_later s t (Body.Grant inc nonce epoch key cells load) g h = absurd h
says_later s t (Body.Busy inc nonce key mark) g h = absurd h
says_later s t (Body.Ack inc epoch upto key load) g h = absurd h
says_later s t (Body.Deny inc epoch key) g h = absurd h
says_later s t (Body.Forward config index entry load) g h = absurd h
says_later s t (Body.Have index) g h = absurd h
says_later s t (Body.Echo of load) g h = absurd h
says_later s t (Body.Config config) g h = absurd h

sent_later : (s t : Switch) (ms : List Msg) → GoesOn s t → Each (SentNow s) ms → Each (SentNow t) ms
sent_later s t ms g h = each_weaker (SentNow s) (SentNow t) ms (λ m k. (k.0 ∙ ap Node.Switch (sym g.me), says_later s t m.body g k.1)) h

-- one slot of a table goes on
slot_goes_on : (slots : Table Slot) (key k : Key) (old new was : Slot) → get slots key ≡ Some old → SlotGoesOn old new → get slots k ≡ Some was → (b : Bool) → same_key key k ≡ b →
    (now : Slot) × ((get (put slots key new) k ≡ Some now) × SlotGoesOn was now)
slot_goes_on slots key k old new was at g is true same =
    let e : key ≡ k = same_key-true key k same in
    let o : old ≡ was = same_some (get slots key) old was at (ap (λ j. get slots j) e ∙ is) in
    (new, (subst (λ j. get (put slots key new) j ≡ Some new) e (get-put_same slots key new), subst (λ (x : Slot). SlotGoesOn x new) o g))
slot_goes_on slots key k old new was at g is false ne =
    (was, (get-put_other slots k key new ne ∙ is, record { lease = refl; round = λ r at. (r, (at, (refl, refl))) }))

-- ---- an Alarm

abbrev SaysWalk : Walk → Type 0
SaysWalk w = Each (SentNow w.state) w.sent

one_more : (s : Switch) (ms : List Msg) (m : Msg) → Each (SentNow s) ms → SentNow s m → Each (SentNow s) (ms ++ m ∷ [])
one_more s ms m h k = each_append (SentNow s) ms (m ∷ []) h (k, tt)

walk_says : (now : ℕ) → WalkKeeps now SaysWalk
walk_says now =
    record {
      puts = λ w key slot nonce epoch expiry at is mode none h.
          let c : Copy = record { key = key; number = slot.last + 1; delta = []; first = now; sent = now } in
          one_more _ w.sent _
          (sent_later w.state _ w.sent
          (record {
            me = refl;
            inc = refl;
            slots = λ k was found. slot_goes_on w.state.slots key k slot _ was at (record { lease = refl; round = λ r o. (r, (o, (refl, refl))) }) found (same_key key k) refl;
            copies = λ d i. in_front w.state.copies (c ∷ []) d i;
          })
          h) (
            refl,
            record {
              here = refl;
              slot = record slot { last = slot.last + 1; used = false };
              found = get-put_same w.state.slots key _;
              leased = rw is refl;
              copy = c;
              there = to_append w.state.copies (c ∷ []) c (inr (inl refl));
              key_is = refl;
              number_is = refl;
              delta_is = refl;
            },
          );
      goes_on = λ w key slot nonce epoch expiry r at is bound mode o h.
          one_more _ w.sent _
          (sent_later w.state _ w.sent
          (record {
            me = refl;
            inc = refl;
            slots = λ k was found.
                slot_goes_on w.state.slots key k slot (chunk_slot slot r) was at
                (record { lease = refl; round = λ q p. let same : r ≡ q = same_some slot.round r q o p in (_, (refl, (ap (λ (x : Round). x.number) same, ap (λ (x : Round). x.cells) same))) })
                found (same_key key k) refl;
            copies = λ d i. i;
          })
          h) (
            refl,
            record {
              here = refl;
              slot = chunk_slot slot r;
              found = get-put_same w.state.slots key _;
              leased = rw is refl;
              running = _;
              round_is = refl;
              number_is = refl;
              chunks_are = refl;
              cells_are = refl;
            },
          );
      begins = λ w key slot nonce epoch expiry at is bound mode o h.
          one_more _ w.sent _
          (sent_later w.state _ w.sent
          (record {
            me = refl;
            inc = refl;
            slots = λ k was found.
                slot_goes_on w.state.slots key k slot _ was at (record { lease = refl; round = λ q p. absurd (none_some q o p) }) found (same_key key k) refl;
            copies = λ d i. i;
          })
          h) (
            refl,
            record {
              here = refl;
              slot = _;
              found = get-put_same w.state.slots key _;
              leased = rw is refl;
              running = _;
              round_is = refl;
              number_is = refl;
              chunks_are = refl;
              cells_are = refl;
            },
          );
    }
  where
    none_some : {o : Option Round} (q : Round) → o ≡ None → o ≡ Some q → ⊥
    none_some q a b = cc

-- a leased slot's epoch
leased_at : (s : Switch) (key : Key) (slot : Slot) → slot_at s key ≡ Some slot → is_leased slot.lease ≡ true → epoch_of slot.lease ≡ Some (epoch_at s key)
leased_at s key slot at leased = leased_case slot.lease refl leased
  where
    leased_case : (l : Lease) → slot.lease ≡ l → is_leased l ≡ true → epoch_of l ≡ Some (epoch_at s key)
    leased_case Idle is h = absurd (false≢true h)
    leased_case (Asking nonce first) is h = absurd (false≢true h)
    leased_case (Held nonce epoch expiry) is h = rw (at, is) refl
    leased_case (Lapsed nonce epoch expiry) is h = rw (at, is) refl

ask_says : (t s : Switch) (now : ℕ) (key : Key) (slot : Slot) (lease : Lease) → t.me ≡ s.me → t.inc ≡ s.inc → slot_at t key ≡ Some slot → slot.lease ≡ lease → Each (SentNow t) (repeated_ask s now key lease)
ask_says t s now key slot (Asking nonce first) me inc at is =
    each_if (SentNow t) (is_young s.terms.t_switch first now) _ [] ((ap Node.Switch (sym me), record { here = sym inc; slot = slot; found = at; first = first; asking = is }), tt) tt
ask_says t s now key slot Idle me inc at is = tt
ask_says t s now key slot (Held nonce epoch expiry) me inc at is = tt
ask_says t s now key slot (Lapsed nonce epoch expiry) me inc at is = tt

asks_say : (t s : Switch) (now : ℕ) (es : Table Slot) → t.me ≡ s.me → t.inc ≡ s.inc → ((e : Key × Slot) → In es e → slot_at t e.0 ≡ Some e.1) → Each (SentNow t) (repeated_asks s now es)
asks_say t s now [] me inc h = tt
asks_say t s now (e ∷ es) me inc h =
    each_append (SentNow t) (repeated_ask s now e.0 e.1.lease) _ (ask_says t s now e.0 e.1 e.1.lease me inc (h e (inl refl)) refl) (asks_say t s now es me inc (λ x i. h x (inr i)))

-- what a switch keeps for this: keys differ, and copies stand in leased slots
pub record Tidy (s : Switch) : Type 0 where
  pub keys : KeysDiffer s.slots
  pub copies : Fit s

resent_says : (s : Switch) (now : ℕ) (c : Copy) → Tidy s → In (due_copies now (s.terms.t_switch / 4) 64 s.copies) c →
    SentNow (resent s now (due_copies now (s.terms.t_switch / 4) 64 s.copies) (other_copies now (s.terms.t_switch / 4) 64 s.copies)).state (resent_put s c)
resent_says s now c h i =
    let k : HasSlot s.slots c = each_in (HasSlot s.slots) s.copies c h.copies (in_due now (s.terms.t_switch / 4) 64 s.copies c i) in (
      refl,
      record {
        here = refl;
        slot = k.slot;
        found = k.found;
        leased = leased_at s c.key k.slot k.found k.leased;
        copy = record c { sent = now };
        there = to_append (other_copies now (s.terms.t_switch / 4) 64 s.copies) _ _ (inr (to_map (λ (d : Copy). record d { sent = now }) (due_copies now (s.terms.t_switch / 4) 64 s.copies) c i));
        key_is = refl;
        number_is = refl;
        delta_is = refl;
      },
    )

alarm_says : (s : Switch) (now : ℕ) → Tidy s → Each (SentNow (alarm s now).0) (alarm s now).1.sent
alarm_says s now h =
    let t : Switch = (resent s now (due_copies now (s.terms.t_switch / 4) 64 s.copies) (other_copies now (s.terms.t_switch / 4) 64 s.copies)).state in
    walk_kept now SaysWalk (walk_says now) (walk_order s.walked (map (λ (e : Key × Slot). e.0) s.slots)) _
    (each_take (SentNow t) 64 _
    (each_append (SentNow t) _ (repeated_asks s now s.slots)
    (each_made (SentNow t) (resent_put s) (due_copies now (s.terms.t_switch / 4) 64 s.copies) (λ c i. resent_says s now c h i))
    (asks_say t s now s.slots refl refl (λ e i. member_found s.slots e h.keys i))))

-- ---- every row

row_says : (app : Application) (s : Switch) (now : ℕ) (input : Input) (row : SwitchRow) → RowTaken app s now input row → Tidy s → Each (SentNow (perform s now row).0) (perform s now row).1.sent
row_says app s now input (NewAsk key slot packet) a h =
    ((refl, record { here = refl; slot = _; found = get-put_same s.slots key _; first = now; asking = refl }), tt)
row_says app s now input (AskAgain key slot nonce packet) (ask_again {first = first} of at is young) h =
    ((refl, record { here = refl; slot = _; found = get-put_same s.slots key _; first = first; asking = is }), tt)
row_says app s now input (Mirrored key slot epoch mark delta out) (mirrored r mode e room t) h =
    let held = ready_held r in (
      (
        refl,
        record {
          here = refl;
          slot = _;
          found = get-put_same s.slots key _;
          leased = rw held.1.1 refl;
          copy = record { key = key; number = slot.last + 1; delta = delta; first = now; sent = now };
          there = to_append s.copies _ _ (inr (inl refl));
          key_is = refl;
          number_is = refl;
          delta_is = refl;
        },
      ),
      tt,
    )
row_says app s now input (Late key slot None) a h = tt
row_says app s now input (Late key slot (Some m)) a h = tt
row_says app s now input Resends a h = alarm_says s now h
row_says app s now input _ a h = tt

pub tidy_lapsed : (s : Switch) (now : ℕ) → Tidy s → Tidy (lapsed now s)
tidy_lapsed s now h = record { keys = differ_map (lapsed_slot now) s.slots h.keys; copies = same_lease s.slots now s.copies h.copies }

pub step_says : (app : Application) (s : Switch) (now : ℕ) (input : Input) → Tidy s → Each (SentNow (switch_step app s now input).0) (switch_step app s now input).1.sent
step_says app s now input h = row_says app (lapsed now s) now input (switch_row app (lapsed now s) now input) (row_taken app (lapsed now s) now input) (tidy_lapsed s now h)
