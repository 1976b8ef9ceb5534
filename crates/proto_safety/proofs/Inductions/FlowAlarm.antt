-- An Alarm is, for each flow, moves of that flow; and so is every step of a switch.
use Rattle.std.proofs.Common.{◌≡◌, ◌⊎◌, ℕ, ◌+◌, List, [], ◌∷◌, ◌++◌, map, Some, refl, sym, ap, subst, ◌∙◌, inl, inr, true, false, Bool, zero, suc}
use Rattle.std.specs.Prelude.{◌/◌, filter, option_map, if◌then◌else◌}
use Rattle.proto_data.specs.declared.message.Input.{Input}
use Rattle.proto_data.specs.declared.terms.Terms.{Terms}
use Rattle.proto_data.specs.declared.terms.Mode.{Mode}
use Rattle.rp_app.specs.Application.{Application}
use Rattle.key_table.specs.Table.{Key, same_key, get, put}
use Rattle.proto_model.specs.Slot.{Slot, Held, Round, lapsed_slot}
use Rattle.proto_model.specs.SwitchState.{Switch, Copy, Item, Begun, slot_at, is_of, lapsed}
use Rattle.proto_model.specs.SwitchAlarm.{Walk, alarm, due_copies, other_copies, is_due, walk_order, empty_put, chunk_sent}
use Rattle.proto_model.specs.SwitchRow.{switch_row}
use Rattle.proto_model.specs.SwitchOutcomes.{perform}
use Rattle.proto_model.specs.SwitchRows.{switch_step}
use Rattle.proto_safety.specs.Books.{In}
use Rattle.proto_safety.proofs.Inductions.AlarmInduction.{WalkKeeps, walk_kept, round_slot, new_round}
use Rattle.proto_safety.proofs.Nodes.SwitchTable.{row_taken}
use Rattle.proto_safety.proofs.Inductions.FlowMoves.{View, view, Move, Moves, none, more, lapses, resends, keeps_lease, sends_chunk, begins_round, SameCopy, SameCopies, chunk_slot, same_view, one_more_same, one_more_other, none_of}
use Rattle.proto_safety.proofs.Inductions.FlowSteps.{of_flow, row_moves}
use Rattle.key_table.proofs.Tables.{get-put_same, get-put_other, get-map_values, same_key-true}
use Rattle.proto_safety.proofs.Basics.Members.{in_append, in_filter, in_map, to_append, to_filter, to_map}

-- ---- members of lists

-- ---- due copies and others

pub in_due : (now age room : ℕ) (cs : List Copy) (c : Copy) → In (due_copies now age room cs) c → In cs c
in_due now age room [] c i = absurd i
in_due now age zero (d ∷ ds) c i = absurd i
in_due now age (suc room) (d ∷ ds) c i = due_case (is_due now age d) (in_due now age room ds c) (in_due now age (suc room) ds c) i
  where
    due_case : (b : Bool) → (In (due_copies now age room ds) c → In ds c) → (In (due_copies now age (suc room) ds) c → In ds c) → In (if b then d ∷ due_copies now age room ds else due_copies now age (suc room) ds) c → In (d ∷ ds) c
    due_case true p q (inl e) = inl e
    due_case true p q (inr j) = inr (p j)
    due_case false p q j = inr (q j)

pub in_other : (now age room : ℕ) (cs : List Copy) (c : Copy) → In (other_copies now age room cs) c → In cs c
in_other now age room [] c i = absurd i
in_other now age zero (d ∷ ds) c i = i
in_other now age (suc room) (d ∷ ds) c i = other_case (is_due now age d) (in_other now age room ds c) (in_other now age (suc room) ds c) i
  where
    other_case : (b : Bool) → (In (other_copies now age room ds) c → In ds c) → (In (other_copies now age (suc room) ds) c → In ds c) → In (if b then other_copies now age room ds else d ∷ other_copies now age (suc room) ds) c → In (d ∷ ds) c
    other_case true p q j = inr (p j)
    other_case false p q (inl e) = inl e
    other_case false p q (inr j) = inr (q j)

due_or_other : (now age room : ℕ) (cs : List Copy) (c : Copy) → In cs c → In (due_copies now age room cs) c ⊎ In (other_copies now age room cs) c
due_or_other now age room [] c i = absurd i
due_or_other now age zero (d ∷ ds) c i = inr i
due_or_other now age (suc room) (d ∷ ds) c (inl e) = first_case (is_due now age d)
  where
    first_case : (b : Bool) → In (if b then d ∷ due_copies now age room ds else due_copies now age (suc room) ds) c ⊎ In (if b then other_copies now age room ds else d ∷ other_copies now age (suc room) ds) c
    first_case true = inl (inl e)
    first_case false = inr (inl e)
due_or_other now age (suc room) (d ∷ ds) c (inr i) = later_case (is_due now age d) (due_or_other now age room ds c i) (due_or_other now age (suc room) ds c i)
  where
    later_case : (b : Bool) → In (due_copies now age room ds) c ⊎ In (other_copies now age room ds) c → In (due_copies now age (suc room) ds) c ⊎ In (other_copies now age (suc room) ds) c →
        In (if b then d ∷ due_copies now age room ds else due_copies now age (suc room) ds) c ⊎ In (if b then other_copies now age room ds else d ∷ other_copies now age (suc room) ds) c
    later_case true (inl j) q = inl (inr j)
    later_case true (inr j) q = inr j
    later_case false p (inl j) = inl j
    later_case false p (inr j) = inr (inr j)

-- the copies after the first part of an Alarm are those before, apart from when they went
pub resent_same : (now age room : ℕ) (key : Key) (cs : List Copy) →
    SameCopies (filter (is_of key) cs) (filter (is_of key) (other_copies now age room cs ++ map (λ (c : Copy). record c { sent = now }) (due_copies now age room cs)))
resent_same now age room key cs = record { were = were; are = are }
  where
    again : Copy → Copy
    again c = record c { sent = now }

    was : (c : Copy) → is_of key c ≡ true → In (other_copies now age room cs) c ⊎ In (map (λ (c : Copy). record c { sent = now }) (due_copies now age room cs)) c → (d : Copy) × (In (filter (is_of key) cs) d × SameCopy c d)
    was c of (inl i) = (c, (to_filter (is_of key) cs c (in_other now age room cs c i) of, record { key = refl; number = refl; delta = refl; first = refl }))
    was c of (inr i) =
        let m = in_map (λ (c : Copy). record c { sent = now }) (due_copies now age room cs) c i in (
          m.0,
          (
            to_filter (is_of key) cs m.0 (in_due now age room cs m.0 m.1.0) (ap (λ (x : Copy). is_of key x) m.1.1 ∙ of),
            record { key = sym (ap (λ (x : Copy). x.key) m.1.1); number = sym (ap (λ (x : Copy). x.number) m.1.1); delta = sym (ap (λ (x : Copy). x.delta) m.1.1); first = sym (ap (λ (x : Copy). x.first) m.1.1) },
          ),
        )

    were : (c : Copy) → In (filter (is_of key) (other_copies now age room cs ++ map (λ (c : Copy). record c { sent = now }) (due_copies now age room cs))) c → (d : Copy) × (In (filter (is_of key) cs) d × SameCopy c d)
    were c i = let f = in_filter (is_of key) _ c i in was c f.1 (in_append (other_copies now age room cs) _ c f.0)

    still : (d : Copy) → is_of key d ≡ true → In (due_copies now age room cs) d ⊎ In (other_copies now age room cs) d →
        (c : Copy) × (In (filter (is_of key) (other_copies now age room cs ++ map (λ (c : Copy). record c { sent = now }) (due_copies now age room cs))) c × SameCopy c d)
    still d of (inl i) = (
      record d { sent = now },
      (
        to_filter (is_of key) _ (record d { sent = now }) (to_append (other_copies now age room cs) _ _ (inr (to_map (λ (c : Copy). record c { sent = now }) (due_copies now age room cs) d i))) of,
        record { key = refl; number = refl; delta = refl; first = refl },
      ),
    )
    still d of (inr i) = (d, (to_filter (is_of key) _ d (to_append (other_copies now age room cs) _ d (inl i)) of, record { key = refl; number = refl; delta = refl; first = refl }))

    are : (d : Copy) → In (filter (is_of key) cs) d → (c : Copy) × (In (filter (is_of key) (other_copies now age room cs ++ map (λ (c : Copy). record c { sent = now }) (due_copies now age room cs))) c × SameCopy c d)
    are d i = let f = in_filter (is_of key) cs d i in still d f.1 (due_or_other now age room cs d f.0)

-- ---- the walk

module _ (app : Application) (s : Switch) (now : ℕ) (key : Key) where
  record Walked (w : Walk) : Type 0 where
    terms_are : w.state.terms ≡ s.terms
    moves : Moves app s.inc s.terms now Input.Alarm key (view key s) [] (view key w.state)

  -- one more move, to an equal view
  further : (v u : View) → Moves app s.inc s.terms now Input.Alarm key (view key s) [] v → Move app s.inc s.terms now Input.Alarm key v [] u → (s' : Switch) → u.nonces ≡ s'.nonces → u.slot ≡ slot_at s' key → u.copies ≡ filter (is_of key) s'.copies →
      Moves app s.inc s.terms now Input.Alarm key (view key s) [] (view key s')
  further v u h m s' n at cs = subst (λ x. Moves app s.inc s.terms now Input.Alarm key (view key s) [] x) (same_view u s'.nonces (slot_at s' key) (filter (is_of key) s'.copies) n at cs) (more h m)

  as_it_was : (v : View) → Moves app s.inc s.terms now Input.Alarm key (view key s) [] v → (s' : Switch) → v.nonces ≡ s'.nonces → v.slot ≡ slot_at s' key → v.copies ≡ filter (is_of key) s'.copies →
      Moves app s.inc s.terms now Input.Alarm key (view key s) [] (view key s')
  as_it_was v h s' n at cs = subst (λ x. Moves app s.inc s.terms now Input.Alarm key (view key s) [] x) (same_view v s'.nonces (slot_at s' key) (filter (is_of key) s'.copies) n at cs) h

  put_moves : (w : Walk) (k : Key) (slot : Slot) (nonce epoch expiry : ℕ) → s.terms.mode ≡ Mode.Strict → slot_at w.state k ≡ Some slot → slot.lease ≡ Held nonce epoch expiry → filter (is_of k) w.state.copies ≡ [] →
      Moves app s.inc s.terms now Input.Alarm key (view key s) [] (view key w.state) → (b : Bool) → same_key k key ≡ b → Moves app s.inc s.terms now Input.Alarm key (view key s) [] (view key (empty_put w now k slot epoch).state)
  put_moves w k slot nonce epoch expiry mode at is alone h true same_is =
      let same : k ≡ key = same_key-true k key same_is in
      let copy : Copy = record { key = k; number = slot.last + 1; delta = []; first = now; sent = now } in
      let move : Move app s.inc s.terms now Input.Alarm key (view key w.state) [] (record (view key w.state) { slot = Some (record slot { last = slot.last + 1; used = false }); copies = filter (is_of key) w.state.copies ++ record { key = key; number = slot.last + 1; delta = []; first = now; sent = now } ∷ [] }) =
      keeps_lease mode (ap (λ j. slot_at w.state j) (sym same) ∙ at) is (ap (λ j. filter (is_of j) w.state.copies) (sym same) ∙ alone) in
      further (view key w.state) _ h move (empty_put w now k slot epoch).state refl
      (sym (subst (λ j. get (put w.state.slots j (record slot { last = slot.last + 1; used = false })) key ≡ Some (record slot { last = slot.last + 1; used = false })) (sym same) (get-put_same w.state.slots key (record slot { last = slot.last + 1; used = false }))))
      (ap (λ j. filter (is_of key) w.state.copies ++ record { key = j; number = slot.last + 1; delta = []; first = now; sent = now } ∷ []) (sym same) ∙ sym (one_more_same key w.state.copies copy same_is))
  put_moves w k slot nonce epoch expiry mode at is alone h false same_is =
      as_it_was (view key w.state) h (empty_put w now k slot epoch).state refl (sym (get-put_other w.state.slots key k _ same_is))
      (sym (one_more_other key w.state.copies (record { key = k; number = slot.last + 1; delta = []; first = now; sent = now }) same_is))

  chunk_moves : (w : Walk) (k : Key) (slot : Slot) (epoch : ℕ) (r : Round) (begun : List Begun) → (k ≡ key → Move app s.inc s.terms now Input.Alarm key (view key w.state) [] (record (view key w.state) { slot = Some (chunk_slot slot r) })) →
      Moves app s.inc s.terms now Input.Alarm key (view key s) [] (view key w.state) → (b : Bool) → same_key k key ≡ b → Moves app s.inc s.terms now Input.Alarm key (view key s) [] (view key (chunk_sent w k slot epoch r begun).state)
  chunk_moves w k slot epoch r begun own h true same_is =
      let same : k ≡ key = same_key-true k key same_is in
      further (view key w.state) _ h (own same) (chunk_sent w k slot epoch r begun).state refl
      (sym (subst (λ j. get (put w.state.slots j (chunk_slot slot r)) key ≡ Some (chunk_slot slot r)) (sym same) (get-put_same w.state.slots key (chunk_slot slot r)))) refl
  chunk_moves w k slot epoch r begun own h false same_is =
      as_it_was (view key w.state) h (chunk_sent w k slot epoch r begun).state refl (sym (get-put_other w.state.slots key k _ same_is)) refl

  walk_moves : WalkKeeps now Walked
  walk_moves =
      record {
        puts = λ w k slot nonce epoch expiry at is mode alone h. record { terms_are = h.terms_are; moves = put_moves w k slot nonce epoch expiry (ap (λ (t : Terms). t.mode) (sym h.terms_are) ∙ mode) at is (none_of k w.state.copies alone) h.moves (same_key k key) refl };
        goes_on = λ w k slot nonce epoch expiry r at is bound mode o h.
            record { terms_are = h.terms_are; moves = chunk_moves w k slot epoch r [] (λ same. sends_chunk (ap (λ j. slot_at w.state j) (sym same) ∙ at) is o) h.moves (same_key k key) refl };
        begins = λ w k slot nonce epoch expiry at is bound mode o h.
            record {
              terms_are = h.terms_are;
              moves = chunk_moves w k (round_slot slot) epoch (new_round slot now) (record { key = k; epoch = epoch; round = slot.last + 1 } ∷ [])
                  (λ same. begins_round {bound = bound} (ap (λ j. slot_at w.state j) (sym same) ∙ at) is (ap (λ (t : Terms). t.mode) (sym h.terms_are) ∙ mode) o) h.moves (same_key k key) refl;
            };
      }

  pub alarm_moves : Moves app s.inc s.terms now Input.Alarm key (view key s) [] (view key (alarm s now).0)
  alarm_moves =
      (walk_kept now Walked walk_moves (walk_order s.walked (map (λ (e : Key × Slot). e.0) s.slots)) _
      (record { terms_are = refl; moves = more none (resends (resent_same now (s.terms.t_switch / 4) 64 key s.copies)) })).moves

-- ---- every step

-- leases that ended lapse first
lapsed_first : (app : Application) (s : Switch) (now : ℕ) (input : Input) (key : Key) → Moves app s.inc s.terms now input key (view key s) [] (view key (lapsed now s))
lapsed_first app s now input key =
    subst (λ x. Moves app s.inc s.terms now input key (view key s) [] x)
    (same_view (record (view key s) { slot = option_map (lapsed_slot now) (slot_at s key) }) s.nonces (slot_at (lapsed now s) key) (filter (is_of key) s.copies) refl (sym (get-map_values (lapsed_slot now) s.slots key)) refl)
    (more none lapses)

-- moves behind moves
behind : {app : Application} {inc : ℕ} {terms : Terms} {now : ℕ} {input : Input} {key : Key} {v w u : View} {js : List Item} → Moves app inc terms now input key v [] w → Moves app inc terms now input key w js u → Moves app inc terms now input key v js u
behind h none = h
behind h (more k m) = more (behind h k) m

acted : (app : Application) (s : Switch) (now : ℕ) (input : Input) (key : Key) →
    Moves app s.inc s.terms now input key (view key s) (of_flow key (perform s now (switch_row app s now input)).1.item) (view key (perform s now (switch_row app s now input)).0)
acted app s now (Input.Packet p) key = row_moves app s now (Input.Packet p) key (switch_row app s now (Input.Packet p)) (row_taken app s now (Input.Packet p)) (λ e. cc)
acted app s now (Input.Msg m) key = row_moves app s now (Input.Msg m) key (switch_row app s now (Input.Msg m)) (row_taken app s now (Input.Msg m)) (λ e. cc)
acted app s now Input.Alarm key = alarm_moves app s now key

-- Each step of a switch is moves of each flow, with the items of that flow.
pub step_moves : (app : Application) (s : Switch) (now : ℕ) (input : Input) (key : Key) →
    Moves app s.inc s.terms now input key (view key s) (of_flow key (switch_step app s now input).1.item) (view key (switch_step app s now input).0)
step_moves app s now input key = behind (lapsed_first app s now input key) (acted app (lapsed now s) now input key)
