-- How the marks in a switch's rings move in one step: only a packet that is fed brings a mark, an item's mark leaves `asked`, and a released mark leaves the rings.
use Rattle.std.proofs.Common.{◌≡◌, ℕ, ◌+◌, ◌≤◌, List, [], ◌∷◌, length, Option, Some, None, refl, ap, ◌∙◌, true, false, Bool, map, arith, eqb-true, eq-eqb, subst, ◌⊎◌, inl, inr}
use Rattle.std.specs.Prelude.{◌==◌, if◌then◌else◌}
use Rattle.std.proofs.lemmas.List.{length-replicate}
use Rattle.proto_data.specs.declared.message.Input.{Input}
use Rattle.proto_data.specs.declared.message.Carried.{Carried}
use Rattle.rp_base.specs.declared.node.Packet.{Packet}
use Rattle.rp_base.specs.declared.node.Output.{Output}
use Rattle.rp_app.specs.Application.{Application, IsApplication, IsOutputOf, zeros}
use Rattle.proto_data.specs.Carrying.{output_of}
use Rattle.key_table.specs.Table.{Key, Table, get, put}
use Rattle.proto_model.specs.Ring.{Ring, remembers, forget}
use Rattle.proto_model.specs.Slot.{Slot, lapsed_slot}
use Rattle.proto_model.specs.SwitchState.{Switch, SwitchStep, Item, slot_at, lapsed}
use Rattle.proto_model.specs.SwitchAlarm.{alarm, Walk, walk_order}
use Rattle.proto_model.specs.SwitchRow.{SwitchRow, Keyless, NewAsk, AskAgain, Drops, Direct, Mirrored, Granted, Late, Acked, RoundDone, Denied, Busied, Resends, switch_row}
use Rattle.proto_model.specs.SwitchOutcomes.{perform, held_output, forget_load, remember_output, late_did}
use Rattle.proto_model.specs.SwitchRows.{switch_step}
use Rattle.proto_safety.proofs.Packets.RingMarks.{one, count_in, count_remember, count_forget, forgotten, remembered, total, total-put_some, total-put_none, total-map}
use Rattle.proto_safety.proofs.Nodes.SwitchTable.{RowTaken, Ready, fed, at_grant, at_grant_again, keyless, first_ask, ask_idle, ask_anew, ask_lapsed, ask_again, no_copy_room, direct, mirrored, snapped, too_old, granted_only, late, acked, round_done, denied, busied, row_taken, late_item}
use Rattle.proto_safety.proofs.Inductions.AlarmInduction.{WalkKeeps, walk_kept}
use Rattle.proto_safety.proofs.Serial.SlotCells.{Whole, ready_counted, lapsed_whole}

-- a fed packet brings its own mark, once
abbrev pub fresh : ℕ → Input → ℕ
fresh n (Input.Packet p) = one (p.mark == n)
fresh n (Input.Msg m) = 0
fresh n Input.Alarm = 0

abbrev pub asked_in : ℕ → Slot → ℕ
asked_in n slot = count_in n slot.asked

abbrev pub rings_in : ℕ → Slot → ℕ
rings_in n slot = count_in n slot.asked + count_in n slot.held

abbrev pub asked_of : ℕ → Switch → ℕ
asked_of n s = total (asked_in n) s.slots

abbrev pub rings_of : ℕ → Switch → ℕ
rings_of n s = total (rings_in n) s.slots

pub record MarksMove (s : Switch) (input : Input) (step : SwitchStep) : Type 0 where
  pub asked : (n : ℕ) → asked_of n step.0 ≤ asked_of n s + fresh n input
  pub rings : (n : ℕ) → rings_of n step.0 ≤ rings_of n s + fresh n input
  pub item : (i : Item) → step.1.item ≡ Some i → asked_of i.mark step.0 + 1 ≤ asked_of i.mark s + fresh i.mark input
  pub released : (o : Output) → step.1.released ≡ Some o → rings_of o.mark step.0 + 1 ≤ rings_of o.mark s + fresh o.mark input

-- an output has its packet's mark
pub output_marked : (app : Application) → IsApplication app → (cells : List ℕ) (p : Packet) (o : Output) → length cells ≡ app.cell_count → (app.plain cells p).1 ≡ Some o → o.mark ≡ p.mark
output_marked app is cells p o whole made =
    let out : IsOutputOf p (app.plain cells p).1 = is.outputs cells p whole in
    (subst (IsOutputOf p) made out).0

-- ---- one slot changes

module _ (f : Slot → ℕ) (t : Table Slot) (k : Key) (old v : Slot) (at : get t k ≡ Some old) (x : ℕ) where
  changed : f v ≤ f old + x → total f (put t k v) ≤ total f t + x
  changed le = omega (arith, total-put_some f t k old v at, le)

  fewer : f v + 1 ≤ f old + x → total f (put t k v) + 1 ≤ total f t + x
  fewer le = omega (arith, total-put_some f t k old v at, le)

same_total : (f : Slot → ℕ) (t : Table Slot) (k : Key) (old v : Slot) → get t k ≡ Some old → f v ≡ f old → total f (put t k v) ≡ total f t
same_total f t k old v at e = omega (arith, total-put_some f t k old v at, e)

brought : (f : Slot → ℕ) (t : Table Slot) (k : Key) (v : Slot) (x : ℕ) → get t k ≡ None → f v ≤ x → total f (put t k v) ≤ total f t + x
brought f t k v x at le = omega (arith, total-put_none f t k v at, le)

-- what a slot that processes a packet was before
pub record ReadyMarks (s : Switch) (input : Input) (key : Key) (slot : Slot) (p : Packet) : Type 0 where
  pub old : Slot
  pub at : slot_at s key ≡ Some old
  pub asked : (n : ℕ) → count_in n slot.asked ≤ count_in n old.asked
  pub held : slot.held ≡ old.held
  pub own : count_in p.mark slot.asked + 1 ≤ count_in p.mark old.asked + fresh p.mark input

pub own_mark : (m : ℕ) → one (m == m) ≡ 1
own_mark m = ap one (eq-eqb m m refl)

pub ready_marks : (app : Application) (s : Switch) (now : ℕ) {input : Input} {key : Key} {slot : Slot} {epoch : ℕ} {p : Packet} → Ready app s now input key slot epoch p → ReadyMarks s input key slot p
ready_marks app s now (fed {p = p} {slot = slot} of at is) =
    record { old = slot; at = at; asked = λ n. omega arith; held = refl; own = omega (arith, own_mark p.mark) }
ready_marks app s now (at_grant {c = c} {slot = slot} t in_asked) =
    record {
      old = slot;
      at = t.at;
      asked = λ n. count_forget n c.mark slot.asked;
      held = refl;
      own = omega (arith, forgotten c.mark slot.asked, remembered c.mark slot.asked in_asked);
    }
ready_marks app s now (at_grant_again {c = c} {slot = slot} i at is in_asked) =
    record {
      old = slot;
      at = at;
      asked = λ n. count_forget n c.mark slot.asked;
      held = refl;
      own = omega (arith, forgotten c.mark slot.asked, remembered c.mark slot.asked in_asked);
    }

held_same : (n : ℕ) (a b : Ring) → a ≡ b → count_in n a ≡ count_in n b
held_same n a b e = ap (count_in n) e

-- an output's mark that enters `held`
held_more : (n m : ℕ) (ring : Ring) (out : Option Output) → ((o : Output) → out ≡ Some o → o.mark ≡ m) → count_in n (remember_output ring out) ≤ count_in n ring + one (m == n)
held_more n m ring None marked = omega arith
held_more n m ring (Some o) marked = rw (← marked o refl) (count_remember n o.mark ring)

-- ---- rows

module _ (app : Application) (is_app : IsApplication app) (s : Switch) (now : ℕ) where
  -- nothing is processed or released, and one slot changes
  quiet : (input : Input) (step : SwitchStep) → ((n : ℕ) → asked_of n step.0 ≤ asked_of n s + fresh n input) → ((n : ℕ) → rings_of n step.0 ≤ rings_of n s + fresh n input) →
      step.1.item ≡ None → step.1.released ≡ None → MarksMove s input step
  quiet input step a r no_item no_output =
      record { asked = a; rings = r; item = λ i e. absurd cc; released = λ o e. absurd cc }

  -- a slot's change that adds no marks
  kept : (input : Input) (key : Key) (old v : Slot) (step : SwitchStep) → slot_at s key ≡ Some old → step.0.slots ≡ put s.slots key v → ((n : ℕ) → asked_in n v ≤ asked_in n old) →
      ((n : ℕ) → rings_in n v ≤ rings_in n old) → step.1.item ≡ None → step.1.released ≡ None → MarksMove s input step
  kept input key old v step at slots a r no_item no_output =
      quiet input step
      (λ n. rw slots (changed (asked_in n) s.slots key old v at (fresh n input) (omega (arith, a n))))
      (λ n. rw slots (changed (rings_in n) s.slots key old v at (fresh n input) (omega (arith, r n))))
      no_item no_output

  -- an Ask's slot remembers its packet alone
  asks : (key : Key) (slot v : Slot) (p : Packet) (step : SwitchStep) → (slot_at s key ≡ None) ⊎ ((old : Slot) × (slot_at s key ≡ Some old)) → step.0.slots ≡ put s.slots key v → v.asked ≡ Some p.mark ∷ [] → v.held ≡ [] →
      step.1.item ≡ None → step.1.released ≡ None → MarksMove s (Input.Packet p) step
  asks key slot v p step at slots a h no_item no_output =
      quiet (Input.Packet p) step
      (λ n. rw slots (ask_case (asked_in n) (one (p.mark == n)) at (rw a (omega arith))))
      (λ n. rw slots (ask_case (rings_in n) (one (p.mark == n)) at (rw (a, h) (omega arith))))
      no_item no_output
    where
      ask_case : (f : Slot → ℕ) (x : ℕ) → (slot_at s key ≡ None) ⊎ ((old : Slot) × (slot_at s key ≡ Some old)) → f v ≤ x → total f (put s.slots key v) ≤ total f s.slots + x
      ask_case f x (inl none) le = brought f s.slots key v x none le
      ask_case f x (inr some) le = changed f s.slots key some.0 v some.1 x (omega (arith, le))

  -- a packet that isn't processed
  dropped : (input : Input) (key : Key) (slot : Slot) (p : Packet) (step : SwitchStep) → ReadyMarks s input key slot p → step.0.slots ≡ put s.slots key slot → step.1.item ≡ None → step.1.released ≡ None → MarksMove s input step
  dropped input key slot p step r slots no_item no_output =
      kept input key r.old slot step r.at slots r.asked (λ n. omega (arith, r.asked n, held_same n slot.held r.old.held r.held)) no_item no_output

  -- a packet whose output leaves at once
  done : (input : Input) (key : Key) (slot v : Slot) (p : Packet) (step : SwitchStep) → ReadyMarks s input key slot p → step.0.slots ≡ put s.slots key v → v.asked ≡ slot.asked → v.held ≡ slot.held →
      ((i : Item) → step.1.item ≡ Some i → i.mark ≡ p.mark) → ((o : Output) → step.1.released ≡ Some o → o.mark ≡ p.mark) → MarksMove s input step
  done input key slot v p step r slots a h i_mark o_mark =
      record {
        asked = λ n. rw slots (changed (asked_in n) s.slots key r.old v r.at (fresh n input) (rw a (omega (arith, r.asked n))));
        rings = λ n. rw slots (changed (rings_in n) s.slots key r.old v r.at (fresh n input) (rw (a, h) (omega (arith, r.asked n, held_same n slot.held r.old.held r.held))));
        item = λ i e. rw (i_mark i e, slots) (fewer (asked_in p.mark) s.slots key r.old v r.at (fresh p.mark input) (rw a (omega (arith, r.own))));
        released = λ o e. rw (o_mark o e, slots) (fewer (rings_in p.mark) s.slots key r.old v r.at (fresh p.mark input) (rw (a, h) (omega (arith, r.own, held_same p.mark slot.held r.old.held r.held))));
      }

  -- a packet whose output waits
  waits : (input : Input) (key : Key) (slot v : Slot) (p : Packet) (out : Option Output) (step : SwitchStep) → ReadyMarks s input key slot p → step.0.slots ≡ put s.slots key v → v.asked ≡ slot.asked → v.held ≡ remember_output slot.held out →
      ((o : Output) → out ≡ Some o → o.mark ≡ p.mark) → ((i : Item) → step.1.item ≡ Some i → i.mark ≡ p.mark) → step.1.released ≡ None → MarksMove s input step
  waits input key slot v p out step r slots a h marked i_mark no_output =
      record {
        asked = λ n. rw slots (changed (asked_in n) s.slots key r.old v r.at (fresh n input) (rw a (omega (arith, r.asked n))));
        rings = λ n. rw slots (changed (rings_in n) s.slots key r.old v r.at (fresh n input) (rw (a, h) (mark_case n (p.mark == n) refl)));
        item = λ i e. rw (i_mark i e, slots) (fewer (asked_in p.mark) s.slots key r.old v r.at (fresh p.mark input) (rw a (omega (arith, r.own))));
        released = λ o e. absurd cc;
      }
    where
      mark_case : (n : ℕ) (b : Bool) → (p.mark == n) ≡ b → count_in n slot.asked + count_in n (remember_output slot.held out) ≤ count_in n r.old.asked + count_in n r.old.held + fresh n input
      mark_case n true is =
          let e : p.mark ≡ n = eqb-true p.mark n is in
          rw (← e) (omega (arith, r.own, held_more p.mark p.mark slot.held out marked, own_mark p.mark, held_same p.mark slot.held r.old.held r.held))
      mark_case n false is =
          omega (arith, r.asked n, held_more n p.mark slot.held out marked, ap one is, held_same n slot.held r.old.held r.held)

  -- an Alarm leaves the rings alone
  walk_rings : (n : ℕ) → WalkKeeps now (λ w. (asked_of n w.state ≡ asked_of n s) × (rings_of n w.state ≡ rings_of n s))
  walk_rings n =
      record {
        puts = λ w key slot nonce epoch expiry at is mode none h. (same_total (asked_in n) w.state.slots key slot _ at refl ∙ h.0, same_total (rings_in n) w.state.slots key slot _ at refl ∙ h.1);
        goes_on = λ w key slot nonce epoch expiry r at is bound mode o h. (same_total (asked_in n) w.state.slots key slot _ at refl ∙ h.0, same_total (rings_in n) w.state.slots key slot _ at refl ∙ h.1);
        begins = λ w key slot nonce epoch expiry at is bound mode o h. (same_total (asked_in n) w.state.slots key slot _ at refl ∙ h.0, same_total (rings_in n) w.state.slots key slot _ at refl ∙ h.1);
      }

  alarm_rings : (n : ℕ) → (asked_of n (alarm s now).0 ≡ asked_of n s) × (rings_of n (alarm s now).0 ≡ rings_of n s)
  alarm_rings n =
      walk_kept now (λ (w : Walk). (asked_of n w.state ≡ asked_of n s) × (rings_of n w.state ≡ rings_of n s)) (walk_rings n)
      (walk_order s.walked (map (λ (e : Key × Slot). e.0) s.slots)) _ (refl, refl)

  -- an Ack's output waited in the slot
  ack_case : (input : Input) (key : Key) (slot : Slot) (upto : ℕ) (load : Option Carried) → slot_at s key ≡ Some slot → MarksMove s input (perform s now (Acked key slot upto load))
  ack_case input key slot upto load at =
      record {
        asked = λ n. changed (asked_in n) s.slots key slot _ at (fresh n input) (omega arith);
        rings = λ n. changed (rings_in n) s.slots key slot _ at (fresh n input) (omega (arith, less n load));
        item = λ i e. absurd cc;
        released = λ o e. fewer (rings_in o.mark) s.slots key slot _ at (fresh o.mark input) (omega (arith, gone o load e));
      }
    where
      less : (n : ℕ) (load : Option Carried) → count_in n (forget_load slot.held load) ≤ count_in n slot.held
      less n None = omega arith
      less n (Some c) = count_forget n c.mark slot.held

      held_case : (o : Output) (c : Carried) (b : Bool) → remembers slot.held c.mark ≡ b → (if b then Some (output_of c) else None) ≡ Some o → count_in o.mark (forget slot.held c.mark) + 1 ≤ count_in o.mark slot.held
      held_case o c true is e =
          let same : c.mark ≡ o.mark = cc in
          rw (← same) (omega (arith, forgotten c.mark slot.held, remembered c.mark slot.held is))
      held_case o c false is e = absurd cc

      gone : (o : Output) (load : Option Carried) → held_output slot.held load ≡ Some o → count_in o.mark (forget_load slot.held load) + 1 ≤ count_in o.mark slot.held
      gone o None e = absurd cc
      gone o (Some c) e = held_case o c (remembers slot.held c.mark) refl e

  late_released : (mark : Option ℕ) → (late_did mark).released ≡ None
  late_released None = refl
  late_released (Some m) = refl

  row_marks : Whole app.cell_count s.slots → {input : Input} (row : SwitchRow) → RowTaken app s now input row → MarksMove s input (perform s now row)
  row_marks h (Keyless out) (keyless {p = p} of) =
      record {
        asked = λ n. omega arith;
        rings = λ n. omega arith;
        item = λ i e. absurd cc;
        released = λ o e. let m : o.mark ≡ p.mark = output_marked app is_app (zeros app.cell_count) p o (length-replicate app.cell_count 0) e in rw m (omega (arith, own_mark p.mark));
      }
  row_marks h (NewAsk key slot packet) (first_ask of at room) = asks key slot _ packet _ (inl at) refl refl refl refl refl
  row_marks h (NewAsk key slot packet) (ask_idle of at is) = asks key slot _ packet _ (inr (slot, at)) refl refl refl refl refl
  row_marks h (NewAsk key slot packet) (ask_anew of at is old) = asks key slot _ packet _ (inr (slot, at)) refl refl refl refl refl
  row_marks h (NewAsk key slot packet) (ask_lapsed of at is) = asks key slot _ packet _ (inr (slot, at)) refl refl refl refl refl
  row_marks h (AskAgain key slot nonce packet) (ask_again of at is young) =
      quiet (Input.Packet packet) _
      (λ n. changed (asked_in n) s.slots key slot _ at (one (packet.mark == n)) (count_remember n packet.mark slot.asked))
      (λ n. changed (rings_in n) s.slots key slot _ at (one (packet.mark == n)) (omega (arith, count_remember n packet.mark slot.asked)))
      refl refl
  row_marks h {input} (Drops key slot mark cause) (no_copy_room {p = p} r m full) = dropped input key slot p _ (ready_marks app s now r) refl refl refl
  row_marks h {input} (Drops key slot mark cause) (too_old {p = p} r m old) = dropped input key slot p _ (ready_marks app s now r) refl refl refl
  row_marks h {input} (Direct key slot epoch mark delta out) (direct {p = p} r m made clean none) =
      done input key slot _ p _ (ready_marks app s now r) refl refl refl (λ i e. cc) (λ o e. output_marked app is_app slot.cells p o (ready_counted r h) (ap (λ x. x.1) made ∙ e))
  row_marks h {input} (Direct key slot epoch mark delta out) (snapped {slot = before} {p = p} r m made young) =
      done input key before _ p _ (ready_marks app s now r) refl refl refl (λ i e. cc) (λ o e. output_marked app is_app before.cells p o (ready_counted r h) (ap (λ x. x.1) made ∙ e))
  row_marks h {input} (Mirrored key slot epoch mark delta out) (mirrored {p = p} r m made room dirty) =
      waits input key slot _ p out _ (ready_marks app s now r) refl refl refl
      (λ o e. output_marked app is_app slot.cells p o (ready_counted r h) (ap (λ x. x.1) made ∙ e)) (λ i e. cc) refl
  row_marks h {input} (Granted key slot) (granted_only {slot = old} t none) = kept input key old _ _ t.at refl (λ n. omega arith) (λ n. omega arith) refl refl
  row_marks h {input} (Late key slot mark) (late i at is old) = kept input key slot _ _ at refl (λ n. omega arith) (λ n. omega arith) (late_item mark) (late_released mark)
  row_marks h {input} (Acked key slot upto load) (acked m i at e) = ack_case input key slot upto load at
  row_marks h {input} (RoundDone key slot r) (round_done m i at e o n) = kept input key slot _ _ at refl (λ n. omega arith) (λ n. omega arith) refl refl
  row_marks h {input} (Denied key slot) (denied i at e) = kept input key slot _ _ at refl (λ n. omega arith) (λ n. omega arith) refl refl
  row_marks h {input} (Busied key slot mark) (busied i at is in_asked) =
      kept input key slot _ _ at refl (λ n. count_forget n mark slot.asked) (λ n. omega (arith, count_forget n mark slot.asked)) refl refl
  row_marks h {input} Resends f = quiet input _ (λ n. omega (arith, (alarm_rings n).0)) (λ n. omega (arith, (alarm_rings n).1)) refl refl
  row_marks h {input} _ f = quiet input _ (λ n. omega arith) (λ n. omega arith) refl refl

-- one step
pub step_marks : (app : Application) → IsApplication app → (s : Switch) (now : ℕ) (input : Input) → Whole app.cell_count s.slots → MarksMove s input (switch_step app s now input)
step_marks app is_app s now input h =
    let m = row_marks app is_app (lapsed now s) now (lapsed_whole app.cell_count now s.slots h) (switch_row app (lapsed now s) now input) (row_taken app (lapsed now s) now input) in
    record {
      asked = λ n. omega (arith, m.asked n, total-map (asked_in n) (lapsed_slot now) s.slots (λ v. refl));
      rings = λ n. omega (arith, m.rings n, total-map (rings_in n) (lapsed_slot now) s.slots (λ v. refl));
      item = λ i e. omega (arith, m.item i e, total-map (asked_in i.mark) (lapsed_slot now) s.slots (λ v. refl));
      released = λ o e. omega (arith, m.released o e, total-map (rings_in o.mark) (lapsed_slot now) s.slots (λ v. refl));
    }
