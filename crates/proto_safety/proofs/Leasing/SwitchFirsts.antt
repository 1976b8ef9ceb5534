-- Each Asking slot, each copy and each running round has its first sending, and what a switch's step asks for the first time is new.
use Rattle.std.proofs.Common.{◌≡◌, ◌⊎◌, inl, inr, ℕ, ◌+◌, List, [], ◌∷◌, ◌++◌, Option, Some, None, refl, sym, ap, subst, ◌∙◌, true, false, map, arith, eqb-true}
use Rattle.std.specs.Prelude.{◌/◌, filter, not}
use Rattle.std.proofs.lemmas.Bool.{false≢true}
use Rattle.proto_data.specs.declared.message.Msg.{Msg}
use Rattle.proto_data.specs.declared.message.Body.{Body}
use Rattle.proto_data.specs.declared.message.Input.{Input}
use Rattle.proto_data.specs.declared.message.Carried.{Carried}
use Rattle.rp_base.specs.declared.node.Packet.{Packet}
use Rattle.rp_app.specs.Application.{Application}
use Rattle.proto_model.specs.Ring.{remember}
use Rattle.key_table.specs.Table.{Key, Table, get, put, map_values}
use Rattle.proto_model.specs.Slot.{Slot, Lease, Round, emptied, is_young, Idle, Asking, Held, Lapsed, epoch_of, lapsed_slot}
use Rattle.proto_model.specs.SwitchState.{Switch, Copy, slot_at, is_of, is_covered, lapsed}
use Rattle.proto_model.specs.SwitchAlarm.{alarm, Walk, empty_put, chunk_sent, resent, resent_put, repeated_ask, repeated_asks, due_copies, other_copies, walk_order, epoch_at}
use Rattle.proto_model.specs.SwitchRow.{SwitchRow, NewAsk, AskAgain, Drops, Direct, Mirrored, Granted, Late, Acked, RoundDone, Denied, Busied, Resends, switch_row}
use Rattle.proto_model.specs.SwitchOutcomes.{perform, late_did}
use Rattle.proto_model.specs.SwitchRows.{switch_step}
use Rattle.proto_model.specs.Feeds.{Each}
use Rattle.proto_safety.specs.Books.{In}
use Rattle.proto_safety.specs.LeaseLaws.{Request, AskOf, NumberOf, First}
use Rattle.proto_safety.specs.Firsts.{with_request, with_sent}
use Rattle.proto_safety.proofs.Leasing.FirstSendings.{Made, MadeBefore, sending, stays, comes, sent_stays, sent_append}
use Rattle.proto_safety.proofs.Inductions.FlowAlarm.{in_due, resent_same}
use Rattle.proto_safety.proofs.Basics.TableKeys.{KeysDiffer, member_found}
use Rattle.key_table.proofs.Tables.{get-map_values, same_key-true, same_key-refl, same_some}
use Rattle.proto_safety.proofs.Nodes.SwitchTable.{msg, RowTaken, Ready, fed, at_grant, at_grant_again, first_ask, ask_idle, ask_anew, ask_lapsed, ask_again, no_copy_room, direct, mirrored, snapped, too_old, granted_only, late, acked, round_done, denied, busied, row_taken}
use Rattle.proto_safety.proofs.Inductions.AlarmInduction.{WalkKeeps, walk_kept, new_round, round_slot}
use Rattle.proto_safety.proofs.Inductions.FlowMoves.{chunk_slot}
use Rattle.proto_safety.specs.Sizes.{is_leased}
use Rattle.proto_safety.proofs.Leasing.Copies.{Fit, HasSlot}
use Rattle.proto_safety.proofs.Nodes.SwitchSays.{Tidy, tidy_lapsed}
use Rattle.proto_safety.proofs.Serial.SlotCells.{mapped}
use Rattle.proto_safety.proofs.Leasing.SlotFirsts.{NodeFirsts, Counted, Untouched, not_asking, acked_epoch, lapsed_epoch, lapsed_asking, has_leased, put_firsts, same_copies, fewer_copies, pushed_copies, NoRound, next_new, next_firsts, begun_firsts, same_counted, next_counted}
use Rattle.proto_safety.proofs.Basics.Eachs.{each_append, each_if, each_in, each_made, each_take}
use Rattle.proto_safety.proofs.Basics.Members.{in_append, in_filter, in_front, in_last, to_filter}

none_running : (r : Round) → None ≡ Some r → ⊥
none_running r is = cc

-- ---- the walk of an Alarm

pub record WalkFirsts (fs : List First) (n now : ℕ) (w : Walk) : Type 0 where
  pub firsts : NodeFirsts (with_sent n now fs w.sent) n w.state.inc w.state.slots w.state.copies
  pub counted : Counted (with_sent n now fs w.sent) n w.state.inc w.state.nonces w.state.slots

walk_firsts : (fs : List First) (n now : ℕ) → WalkKeeps now (WalkFirsts fs n now)
walk_firsts fs n now =
    record {
      puts = λ w key slot nonce epoch expiry at is mode none h. put_case w key slot nonce epoch expiry at is h;
      goes_on = λ w key slot nonce epoch expiry r at is bound mode o h. chunk_case w key slot nonce epoch expiry r at is o h;
      begins = λ w key slot nonce epoch expiry at is bound mode o h. begin_case w key slot nonce epoch expiry at is h;
    }
  where
    put_case : (w : Walk) (key : Key) (slot : Slot) (nonce epoch expiry : ℕ) → slot_at w.state key ≡ Some slot → slot.lease ≡ Held nonce epoch expiry → WalkFirsts fs n now w → WalkFirsts fs n now (empty_put w now key slot epoch)
    put_case w key slot nonce epoch expiry at is h =
        let gs : List First = with_sent n now fs w.sent in
        let v : Slot = record slot { last = slot.last + 1; used = false } in
        let new : Copy = record { key = key; number = slot.last + 1; delta = []; first = now; sent = now } in
        let leased : epoch_of slot.lease ≡ Some epoch = ap epoch_of is in
        let grown : with_sent n now fs (empty_put w now key slot epoch).sent ≡ gs ++ sending n now key (NumberOf epoch (slot.last + 1)) ∷ [] =
        sent_append n now fs w.sent _ ∙ comes n now gs key (NumberOf epoch (slot.last + 1)) (next_new gs n w.state.inc w.state.nonces now w.state.slots w.state.copies key slot v epoch at leased refl h.firsts h.counted) in
        record {
          firsts = subst (λ (l : List First). NodeFirsts l n w.state.inc (put w.state.slots key v) (w.state.copies ++ new ∷ [])) (sym grown)
              (next_firsts gs n w.state.inc w.state.nonces now w.state.slots w.state.copies key slot v epoch at leased refl h.firsts h.counted new refl refl refl refl);
          counted = subst (λ (l : List First). Counted l n w.state.inc w.state.nonces (put w.state.slots key v)) (sym grown)
              (next_counted gs n w.state.inc w.state.nonces now w.state.slots w.state.copies key slot v epoch at leased refl h.firsts h.counted refl);
        }

    -- the running round's next chunk: its number was sent before
    chunk_case : (w : Walk) (key : Key) (slot : Slot) (nonce epoch expiry : ℕ) (r : Round) → slot_at w.state key ≡ Some slot → slot.lease ≡ Held nonce epoch expiry → slot.round ≡ Some r → WalkFirsts fs n now w → WalkFirsts fs n now (chunk_sent w key slot epoch r [])
    chunk_case w key slot nonce epoch expiry r at is runs h =
        let gs : List First = with_sent n now fs w.sent in
        let v : Slot = chunk_slot slot r in
        let leased : epoch_of slot.lease ≡ Some epoch = ap epoch_of is in
        let there : In gs (sending n r.begun key (NumberOf epoch r.number)) = h.firsts.rounds key slot epoch r at leased runs in
        let same : with_sent n now fs (chunk_sent w key slot epoch r []).sent ≡ gs =
        sent_append n now fs w.sent _ ∙ stays n now gs key (NumberOf epoch r.number) (record { first = sending n r.begun key (NumberOf epoch r.number); there = there; switch_is = refl; key_is = refl; request_is = refl }) in
        record {
          firsts = subst (λ (l : List First). NodeFirsts l n w.state.inc (put w.state.slots key v) w.state.copies) (sym same)
              (put_firsts gs gs n w.state.inc w.state.slots w.state.copies w.state.copies key v (λ f i. i)
              (λ m first e. absurd (not_asking slot.lease epoch m first leased e))
              (λ e d l i of. h.firsts.copied key slot e d at l i of)
              (λ e q l x. run_case gs w.state.inc w.state.slots w.state.copies key slot e r q at l runs x h.firsts)
              (same_copies w.state.copies key) h.firsts);
          counted = subst (λ (l : List First). Counted l n w.state.inc w.state.nonces (put w.state.slots key v)) (sym same)
              (same_counted gs n w.state.inc w.state.nonces now w.state.slots w.state.copies key slot v epoch at leased refl h.firsts h.counted refl);
        }
      where
        run_case : (gs : List First) (inc : ℕ) (slots : Table Slot) (copies : List Copy) (key : Key) (slot : Slot) (e : ℕ) (r q : Round) → get slots key ≡ Some slot → epoch_of slot.lease ≡ Some e → slot.round ≡ Some r → (chunk_slot slot r).round ≡ Some q → NodeFirsts gs n inc slots copies →
            In gs (sending n q.begun key (NumberOf e q.number))
        run_case gs inc slots copies key slot e r q at l runs x h =
            let same = same_some (chunk_slot slot r).round _ q refl x in
            let begun : r.begun ≡ q.begun = ap (λ (y : Round). y.begun) same in
            let number : r.number ≡ q.number = ap (λ (y : Round). y.number) same in
            rw (← begun, ← number) (h.rounds key slot e r at l runs)

    -- a new round has the next number
    begin_case : (w : Walk) (key : Key) (slot : Slot) (nonce epoch expiry : ℕ) → slot_at w.state key ≡ Some slot → slot.lease ≡ Held nonce epoch expiry → WalkFirsts fs n now w →
        WalkFirsts fs n now (chunk_sent w key (round_slot slot) epoch (new_round slot now) (record { key = key; epoch = epoch; round = slot.last + 1 } ∷ []))
    begin_case w key slot nonce epoch expiry at is h =
        let gs : List First = with_sent n now fs w.sent in
        let v : Slot = chunk_slot (round_slot slot) (new_round slot now) in
        let leased : epoch_of slot.lease ≡ Some epoch = ap epoch_of is in
        let grown : with_sent n now fs (chunk_sent w key (round_slot slot) epoch (new_round slot now) (record { key = key; epoch = epoch; round = slot.last + 1 } ∷ [])).sent ≡ gs ++ sending n now key (NumberOf epoch (slot.last + 1)) ∷ [] =
        sent_append n now fs w.sent _ ∙ comes n now gs key (NumberOf epoch (slot.last + 1)) (next_new gs n w.state.inc w.state.nonces now w.state.slots w.state.copies key slot v epoch at leased refl h.firsts h.counted) in
        record {
          firsts = subst (λ (l : List First). NodeFirsts l n w.state.inc (put w.state.slots key v) w.state.copies) (sym grown)
              (begun_firsts gs n w.state.inc w.state.nonces now w.state.slots w.state.copies key slot v epoch at leased refl h.firsts h.counted _ refl refl refl);
          counted = subst (λ (l : List First). Counted l n w.state.inc w.state.nonces (put w.state.slots key v)) (sym grown)
              (next_counted gs n w.state.inc w.state.nonces now w.state.slots w.state.copies key slot v epoch at leased refl h.firsts h.counted refl);
        }

-- ---- rows

module _ (app : Application) (fs : List First) (n : ℕ) (s : Switch) (now : ℕ) (h : NodeFirsts fs n s.inc s.slots s.copies) (fit : Fit s) (c : Counted fs n s.inc s.nonces s.slots) where
  abbrev Stands : List First → Table Slot → List Copy → Type 0
  Stands gs slots copies = NodeFirsts gs n s.inc slots copies

  -- an Asking slot has no copies
  no_copies : (key : Key) (old : Slot) (nonce first : ℕ) (d : Copy) → get s.slots key ≡ Some old → old.lease ≡ Asking nonce first → In s.copies d → is_of key d ≡ true → ⊥
  no_copies key old nonce first d at is i of =
      let k = each_in (HasSlot s.slots) s.copies d fit i in
      let e : d.key ≡ key = same_key-true d.key key of in
      let same : old ≡ k.slot = same_some (get s.slots key) old k.slot at (subst (λ (x : Key). get s.slots x ≡ Some k.slot) e k.found) in
      false≢true (sym (ap is_leased is) ∙ ap (λ (x : Slot). is_leased x.lease) same ∙ k.leased)

  -- the slot keeps its lease, and no copy comes
  kept : (key : Key) (old v : Slot) (after : List Copy) → get s.slots key ≡ Some old → ((nonce first : ℕ) → v.lease ≡ Asking nonce first → old.lease ≡ Asking nonce first) →
      ((e : ℕ) → epoch_of v.lease ≡ Some e → epoch_of old.lease ≡ Some e) → ((r : Round) → v.round ≡ Some r → old.round ≡ Some r) → ((d : Copy) → In after d → In s.copies d) → Stands fs (put s.slots key v) after
  kept key old v after at a e runs less =
      put_firsts fs fs n s.inc s.slots s.copies after key v (λ f i. i)
      (λ nonce first is. h.asking key old nonce first at (a nonce first is))
      (λ epoch d is i of. h.copied key old epoch d at (e epoch is) (less d i) of)
      (λ epoch r is x. h.rounds key old epoch r at (e epoch is) (runs r x))
      (λ k d ne i of. (d, (less d i, (of, (refl, refl)))))
      h

  -- the slot has nothing that waits
  cleared : (key : Key) (v : Slot) → ((nonce first : ℕ) → v.lease ≡ Asking nonce first → ⊥) → NoRound v → Stands fs (put s.slots key v) (filter (λ d. not (is_of key d)) s.copies)
  cleared key v idle none =
      put_firsts fs fs n s.inc s.slots s.copies (filter (λ d. not (is_of key d)) s.copies) key v (λ f i. i) (λ nonce first is. absurd (idle nonce first is))
      (λ epoch d is i of. absurd (given_up d of (in_filter (λ d. not (is_of key d)) s.copies d i).1)) (λ epoch r is x. absurd (none r x)) (fewer_copies (λ d. not (is_of key d)) s.copies key) h
    where
      given_up : (d : Copy) → is_of key d ≡ true → not (is_of key d) ≡ true → ⊥
      given_up d of gone = let no : not true ≡ true = subst (λ b. not b ≡ true) of gone in cc

  -- a new Ask
  asked : (key : Key) (v : Slot) (load : Option Carried) → v.lease ≡ Asking (s.nonces + 1) now → NoRound v →
      Stands (with_request n now fs (Some (key, AskOf s.inc (s.nonces + 1)))) (put s.slots key v) (filter (λ d. not (is_of key d)) s.copies)
  asked key v load is none =
      subst (λ (gs : List First). Stands gs (put s.slots key v) (filter (λ d. not (is_of key d)) s.copies)) (sym (comes n now fs key (AskOf s.inc (s.nonces + 1)) (λ m. absurd (omega (arith, c.asks key (s.nonces + 1) m)))))
      (put_firsts fs (fs ++ sending n now key (AskOf s.inc (s.nonces + 1)) ∷ []) n s.inc s.slots s.copies (filter (λ d. not (is_of key d)) s.copies) key v (λ f i. in_front fs _ f i)
      (λ nonce first e. own nonce first (sym is ∙ e))
      (λ epoch d e i of. absurd (not_asking v.lease epoch (s.nonces + 1) now e is)) (λ epoch r e x. absurd (none r x)) (fewer_copies (λ d. not (is_of key d)) s.copies key) h)
    where
      own : (nonce first : ℕ) → Asking (s.nonces + 1) now ≡ Asking nonce first → In (fs ++ sending n now key (AskOf s.inc (s.nonces + 1)) ∷ []) (sending n first key (AskOf s.inc nonce))
      own nonce first e =
          let same_nonce : s.nonces + 1 ≡ nonce = cc in
          let same_first : now ≡ first = cc in
          rw (← same_nonce, ← same_first) (in_last fs (sending n now key (AskOf s.inc (s.nonces + 1))))

  -- ---- processed packets

  ready_epoch : {input : Input} {key : Key} {slot : Slot} {epoch : ℕ} {p : Packet} → Ready app s now input key slot epoch p → epoch_of slot.lease ≡ Some epoch
  ready_epoch (fed of at is) = ap epoch_of is
  ready_epoch (at_grant t in_asked) = refl
  ready_epoch (at_grant_again i at is in_asked) = ap epoch_of is

  ready_copies : {input : Input} {key : Key} {slot : Slot} {epoch : ℕ} {p : Packet} → Ready app s now input key slot epoch p → (e : ℕ) (d : Copy) → epoch_of slot.lease ≡ Some e → In s.copies d → is_of key d ≡ true →
      In fs (sending n d.first key (NumberOf e d.number))
  ready_copies {key = key} (fed {slot = slot} of at is) e d leased i own = h.copied key slot e d at leased i own
  ready_copies {key = key} (at_grant {nonce = nonce} {first = first} {slot = slot} t in_asked) e d leased i own = absurd (no_copies key slot nonce first d t.at t.asking i own)
  ready_copies {key = key} (at_grant_again {slot = slot} i at is in_asked) e d leased j own = h.copied key slot e d at leased j own

  ready_rounds : {input : Input} {key : Key} {slot : Slot} {epoch : ℕ} {p : Packet} → Ready app s now input key slot epoch p → (e : ℕ) (r : Round) → epoch_of slot.lease ≡ Some e → slot.round ≡ Some r → In fs (sending n r.begun key (NumberOf e r.number))
  ready_rounds {key = key} (fed {slot = slot} of at is) e r leased runs = h.rounds key slot e r at leased runs
  ready_rounds (at_grant t in_asked) e r leased runs = absurd (none_running r runs)
  ready_rounds {key = key} (at_grant_again {slot = slot} i at is in_asked) e r leased runs = h.rounds key slot e r at leased runs

  ready_new : {input : Input} {key : Key} {slot : Slot} {epoch : ℕ} {p : Packet} → Untouched fs n s.inc s.slots input → Ready app s now input key slot epoch p → Made fs n key (NumberOf epoch (slot.last + 1)) → ⊥
  ready_new u (fed {key = key} {slot = slot} {epoch = epoch} of at is) m = absurd (omega (arith, c.numbers key slot epoch (slot.last + 1) at (ap epoch_of is) m))
  ready_new u (at_grant {from = from} {to = to} {inc = inc} {nonce = nonce} {epoch = epoch} {first = first} {key = key} {cells = cells} {c = carried} {slot = slot} t in_asked) m =
      u from to nonce epoch first 1 key cells (Some carried) slot (ap (λ (i : ℕ). msg from to (Body.Grant i nonce epoch key cells (Some carried))) (eqb-true inc s.inc t.here)) t.at t.asking m
  ready_new u (at_grant_again {epoch = epoch} {key = key} {slot = slot} i at is in_asked) m = absurd (omega (arith, c.numbers key slot epoch (slot.last + 1) at (ap epoch_of is) m))

  -- an Asking slot takes a lease
  granted_firsts : (key : Key) (old v : Slot) (nonce first : ℕ) → get s.slots key ≡ Some old → old.lease ≡ Asking nonce first → ((m f : ℕ) → v.lease ≡ Asking m f → ⊥) → NoRound v → Stands fs (put s.slots key v) s.copies
  granted_firsts key old v nonce first at is held idle =
      put_firsts fs fs n s.inc s.slots s.copies s.copies key v (λ f i. i) (λ m f e. absurd (held m f e)) (λ e d x i of. absurd (no_copies key old nonce first d at is i of)) (λ e r x y. absurd (idle r y)) (same_copies s.copies key) h

  -- the slot of a processed packet, with no new copy
  processed : {input : Input} {key : Key} {slot : Slot} {epoch : ℕ} {p : Packet} (v : Slot) → Ready app s now input key slot epoch p → v.lease ≡ slot.lease → v.round ≡ slot.round → Stands fs (put s.slots key v) s.copies
  processed {key = key} {slot = slot} {epoch = epoch} v r same same_round =
      put_firsts fs fs n s.inc s.slots s.copies s.copies key v (λ f i. i)
      (λ nonce first is. absurd (not_asking slot.lease epoch nonce first (ready_epoch r) (sym same ∙ is)))
      (λ e d is i of. ready_copies r e d (ap epoch_of (sym same) ∙ is) i of)
      (λ e q is runs. ready_rounds r e q (ap epoch_of (sym same) ∙ is) (sym same_round ∙ runs)) (same_copies s.copies key) h

  -- and with one
  mirrored_firsts : {input : Input} {key : Key} {slot : Slot} {epoch : ℕ} {p : Packet} (v : Slot) (new : Copy) → Untouched fs n s.inc s.slots input → Ready app s now input key slot epoch p → v.lease ≡ slot.lease → v.round ≡ slot.round →
      new.key ≡ key → new.number ≡ slot.last + 1 → new.first ≡ now →
      Stands (with_request n now fs (Some (key, NumberOf epoch (slot.last + 1)))) (put s.slots key v) (s.copies ++ new ∷ [])
  mirrored_firsts {key = key} {slot = slot} {epoch = epoch} v new u r same same_round own_key own_number own_first =
      subst (λ (gs : List First). Stands gs (put s.slots key v) (s.copies ++ new ∷ [])) (sym (comes n now fs key (NumberOf epoch (slot.last + 1)) (ready_new u r)))
      (put_firsts fs (fs ++ sending n now key (NumberOf epoch (slot.last + 1)) ∷ []) n s.inc s.slots s.copies (s.copies ++ new ∷ []) key v (λ f i. in_front fs _ f i)
      (λ nonce first is. absurd (not_asking slot.lease epoch nonce first (ready_epoch r) (sym same ∙ is)))
      (λ e d is i of. copy_case e d (ap epoch_of (sym same) ∙ is) (in_append s.copies (new ∷ []) d i) of)
      (λ e q is runs. in_front fs _ _ (ready_rounds r e q (ap epoch_of (sym same) ∙ is) (sym same_round ∙ runs)))
      (pushed_copies s.copies new key own_key) h)
    where
      copy_case : (e : ℕ) (d : Copy) → epoch_of slot.lease ≡ Some e → In s.copies d ⊎ In (new ∷ []) d → is_of key d ≡ true → In (fs ++ sending n now key (NumberOf epoch (slot.last + 1)) ∷ []) (sending n d.first key (NumberOf e d.number))
      copy_case e d is (inl there) of = in_front fs _ _ (ready_copies r e d is there of)
      copy_case e d is (inr (inl x)) of =
          let same_epoch : epoch ≡ e = same_some (epoch_of slot.lease) epoch e (ready_epoch r) is in
          let number : d.number ≡ slot.last + 1 = ap (λ (y : Copy). y.number) (sym x) ∙ own_number in
          let first : d.first ≡ now = ap (λ (y : Copy). y.first) (sym x) ∙ own_first in
          rw (← same_epoch, number, first) (in_last fs (sending n now key (NumberOf epoch (slot.last + 1))))
      copy_case e d is (inr (inr j)) of = absurd j

  -- ---- an Alarm

  abbrev Resent : Walk
  Resent = resent s now (due_copies now (s.terms.t_switch / 4) 64 s.copies) (other_copies now (s.terms.t_switch / 4) 64 s.copies)

  -- a copy that goes again was sent before
  resent_made : (d : Copy) → In s.copies d → MadeBefore fs n (resent_put s d)
  resent_made d i r is =
      let k = each_in (HasSlot s.slots) s.copies d fit i in
      leased_case k.slot k.found (leased_epoch k.slot.lease k.leased)
    where
      leased_epoch : (l : Lease) → is_leased l ≡ true → (e : ℕ) × (epoch_of l ≡ Some e)
      leased_epoch Idle l = absurd (false≢true l)
      leased_epoch (Asking nonce first) l = absurd (false≢true l)
      leased_epoch (Held nonce epoch expiry) l = (epoch, refl)
      leased_epoch (Lapsed nonce epoch expiry) l = (epoch, refl)

      leased_case : (slot : Slot) → get s.slots d.key ≡ Some slot → (e : ℕ) × (epoch_of slot.lease ≡ Some e) → Made fs n r.0 r.1
      leased_case slot at e =
          let here : epoch_at s d.key ≡ e.0 = rw (at, e.1) refl in
          let first : In fs (sending n d.first d.key (NumberOf e.0 d.number)) = h.copied d.key slot e.0 d at e.1 i (same_key-refl d.key) in
          let body : (d.key, NumberOf (epoch_at s d.key) d.number) ≡ r = cc in
          subst (λ (x : Key × Request). Made fs n x.0 x.1) body (rw here (record { first = sending n d.first d.key (NumberOf e.0 d.number); there = first; switch_is = refl; key_is = refl; request_is = refl }))

  -- and so was an Ask
  ask_made : (key : Key) (slot : Slot) → get s.slots key ≡ Some slot → Each (MadeBefore fs n) (repeated_ask s now key slot.lease)
  ask_made key slot at = lease_case slot.lease refl
    where
      made : (nonce first : ℕ) → slot.lease ≡ Asking nonce first → (r : Key × Request) → Some (key, AskOf s.inc nonce) ≡ Some r → Made fs n r.0 r.1
      made nonce first is r e =
          let body : (key, AskOf s.inc nonce) ≡ r = cc in
          subst (λ (x : Key × Request). Made fs n x.0 x.1) body (record { first = sending n first key (AskOf s.inc nonce); there = h.asking key slot nonce first at is; switch_is = refl; key_is = refl; request_is = refl })

      lease_case : (l : Lease) → slot.lease ≡ l → Each (MadeBefore fs n) (repeated_ask s now key l)
      lease_case Idle is = tt
      lease_case (Asking nonce first) is = each_if (MadeBefore fs n) (is_young s.terms.t_switch first now) _ [] (made nonce first is, tt) tt
      lease_case (Held nonce epoch expiry) is = tt
      lease_case (Lapsed nonce epoch expiry) is = tt

  asks_made : (es : Table Slot) → ((e : Key × Slot) → In es e → get s.slots e.0 ≡ Some e.1) → Each (MadeBefore fs n) (repeated_asks s now es)
  asks_made [] k = tt
  asks_made (e ∷ es) k = each_append (MadeBefore fs n) (repeated_ask s now e.0 e.1.lease) _ (ask_made e.0 e.1 (k e (inl refl))) (asks_made es (λ x i. k x (inr i)))

  resent_stays : KeysDiffer s.slots → with_sent n now fs Resent.sent ≡ fs
  resent_stays keys =
      sent_stays n now fs Resent.sent
      (each_take (MadeBefore fs n) 64 _
      (each_append (MadeBefore fs n) _ (repeated_asks s now s.slots)
      (each_made (MadeBefore fs n) (resent_put s) (due_copies now (s.terms.t_switch / 4) 64 s.copies) (λ d i. resent_made d (in_due now (s.terms.t_switch / 4) 64 s.copies d i)))
      (asks_made s.slots (λ e i. member_found s.slots e keys i))))

  -- the copies after the first part of an Alarm
  resent_copies : Stands fs s.slots Resent.state.copies
  resent_copies =
      record {
        asking = h.asking;
        copied = λ key slot epoch d at is i of.
            let w = (resent_same now (s.terms.t_switch / 4) 64 key s.copies).were d (to_filter (is_of key) _ d i of) in
            let x = in_filter (is_of key) s.copies w.0 w.1.0 in
            subst (λ (y : ℕ). In fs (sending n y key (NumberOf epoch d.number))) (sym w.1.1.first)
            (subst (λ (y : ℕ). In fs (sending n w.0.first key (NumberOf epoch y))) (sym w.1.1.number) (h.copied key slot epoch w.0 at is x.0 x.1));
        rounds = h.rounds;
      }

  -- what a step leaves
  abbrev After : Switch → List Msg → Type 0
  After t ms = NodeFirsts (with_sent n now fs ms) n t.inc t.slots t.copies

  alarm_firsts : KeysDiffer s.slots → After (alarm s now).0 (alarm s now).1.sent
  alarm_firsts keys =
      (walk_kept now (WalkFirsts fs n now) (walk_firsts fs n now) (walk_order s.walked (map (λ (e : Key × Slot). e.0) s.slots)) Resent
      (record {
        firsts = subst (λ (gs : List First). Stands gs s.slots Resent.state.copies) (sym (resent_stays keys)) resent_copies;
        counted = subst (λ (gs : List First). Counted gs n s.inc s.nonces s.slots) (sym (resent_stays keys)) c;
      })).firsts

  late_sends : (mark : Option ℕ) → with_sent n now fs (late_did mark).sent ≡ fs
  late_sends None = refl
  late_sends (Some m) = refl

  -- every row
  row_firsts : KeysDiffer s.slots → {input : Input} (row : SwitchRow) → Untouched fs n s.inc s.slots input → RowTaken app s now input row → After (perform s now row).0 (perform s now row).1.sent
  row_firsts keys (NewAsk key slot packet) u (first_ask of at room) = asked key _ None refl (λ r x. none_running r x)
  row_firsts keys (NewAsk key slot packet) u (ask_idle of at is) = asked key _ None refl (λ r x. none_running r x)
  row_firsts keys (NewAsk key slot packet) u (ask_anew of at is old) = asked key _ None refl (λ r x. none_running r x)
  row_firsts keys (NewAsk key slot packet) u (ask_lapsed of at is) = asked key _ None refl (λ r x. none_running r x)
  row_firsts keys (AskAgain key slot nonce packet) u (ask_again {first = first} of at is young) =
      subst (λ (gs : List First). Stands gs (put s.slots key (record slot { asked = remember slot.asked packet.mark })) s.copies)
      (sym (stays n now fs key (AskOf s.inc nonce) (record { first = sending n first key (AskOf s.inc nonce); there = h.asking key slot nonce first at is; switch_is = refl; key_is = refl; request_is = refl })))
      (kept key slot (record slot { asked = remember slot.asked packet.mark }) s.copies at (λ nonce first e. e) (λ e is. is) (λ r x. x) (λ d i. i))
  row_firsts keys (Drops key slot mark cause) u (no_copy_room r m full) = processed slot r refl refl
  row_firsts keys (Drops key slot mark cause) u (too_old r m old) = processed slot r refl refl
  row_firsts keys (Direct key slot epoch mark delta out) u (direct r m made clean none) = processed _ r refl refl
  row_firsts keys (Direct key slot epoch mark delta out) u (snapped r m made young) = processed _ r refl refl
  row_firsts keys (Mirrored key slot epoch mark delta out) u (mirrored r m made room dirty) = mirrored_firsts _ _ u r refl refl refl refl refl
  row_firsts keys (Granted key slot) u (granted_only {nonce = nonce} {first = first} {slot = old} t none) = granted_firsts key old slot nonce first t.at t.asking (λ m f e. let no : Held _ _ _ ≡ Asking m f = e in cc) (λ r x. none_running r x)
  row_firsts keys (Late key slot mark) u (late i at is old) =
      subst (λ (gs : List First). Stands gs (put s.slots key (emptied slot Idle)) (filter (λ d. not (is_of key d)) s.copies)) (sym (late_sends mark)) (cleared key (emptied slot Idle) (λ nonce first e. let no : Idle ≡ Asking nonce first = e in cc) (λ r x. none_running r x))
  row_firsts keys (Acked key slot upto load) u (acked {epoch = epoch} m i at e) =
      kept key slot _ _ at (λ nonce first is. absurd (not_asking _ epoch nonce first (acked_epoch s.terms.t_switch now slot.lease _ ∙ has_leased slot.lease epoch e) is))
      (λ x is. sym (acked_epoch s.terms.t_switch now slot.lease _) ∙ is) (λ r x. x) (λ d j. (in_filter (λ d. not (is_covered key upto d)) s.copies d j).0)
  row_firsts keys (RoundDone key slot r) u (round_done {epoch = epoch} m i at e o x) =
      kept key slot _ s.copies at (λ nonce first is. absurd (not_asking _ epoch nonce first (acked_epoch s.terms.t_switch now slot.lease (Some (0, r.begun)) ∙ has_leased slot.lease epoch e) is))
      (λ y is. sym (acked_epoch s.terms.t_switch now slot.lease (Some (0, r.begun))) ∙ is) (λ q y. absurd (none_running q y)) (λ d i. i)
  row_firsts keys (Denied key slot) u (denied i at e) = cleared key _ (λ nonce first x. let no : Idle ≡ Asking nonce first = x in cc) (λ r x. none_running r x)
  row_firsts keys (Busied key slot mark) u (busied i at is in_asked) = kept key slot _ s.copies at (λ nonce first e. e) (λ e is. is) (λ r x. x) (λ d i. i)
  row_firsts keys Resends u a = alarm_firsts keys
  row_firsts keys _ u a = h

-- ---- one step

-- leases that ended are Lapsed
lapsed_firsts : (fs : List First) (n inc now : ℕ) (slots : Table Slot) (copies : List Copy) → NodeFirsts fs n inc slots copies → NodeFirsts fs n inc (map_values (lapsed_slot now) slots) copies
lapsed_firsts fs n inc now slots copies h =
    record {
      asking = λ key slot nonce first at is. let m = lapsed_from key slot at in h.asking key m.0 nonce first m.1 (lapsed_asking now nonce first m.0.lease (ap (λ (s : Slot). s.lease) m.2 ∙ is));
      copied = λ key slot epoch c at is i of. let m = lapsed_from key slot at in h.copied key m.0 epoch c m.1 (sym (lapsed_epoch now m.0.lease) ∙ ap (λ (s : Slot). epoch_of s.lease) m.2 ∙ is) i of;
      rounds = λ key slot epoch r at is runs.
          let m = lapsed_from key slot at in h.rounds key m.0 epoch r m.1 (sym (lapsed_epoch now m.0.lease) ∙ ap (λ (s : Slot). epoch_of s.lease) m.2 ∙ is) (ap (λ (s : Slot). s.round) m.2 ∙ runs);
    }
  where
    lapsed_from : (key : Key) (slot : Slot) → get (map_values (lapsed_slot now) slots) key ≡ Some slot → (old : Slot) × (get slots key ≡ Some old) × (lapsed_slot now old ≡ slot)
    lapsed_from key slot at = mapped now (get slots key) slot (sym (get-map_values (lapsed_slot now) slots key) ∙ at)

lapsed_counted : (fs : List First) (n inc nonces now : ℕ) (slots : Table Slot) → Counted fs n inc nonces slots → Counted fs n inc nonces (map_values (lapsed_slot now) slots)
lapsed_counted fs n inc nonces now slots c =
    record {
      asks = c.asks;
      numbers = λ key slot epoch k at is m.
          let x = mapped now (get slots key) slot (sym (get-map_values (lapsed_slot now) slots key) ∙ at) in
          let l : x.0.last ≡ slot.last = ap (λ (s : Slot). s.last) x.2 in
          omega (arith, l, c.numbers key x.0 epoch k x.1 (sym (lapsed_epoch now x.0.lease) ∙ ap (λ (s : Slot). epoch_of s.lease) x.2 ∙ is) m);
    }

lapsed_untouched : (fs : List First) (n inc now : ℕ) (slots : Table Slot) (input : Input) → Untouched fs n inc slots input → Untouched fs n inc (map_values (lapsed_slot now) slots) input
lapsed_untouched fs n inc now slots input u from to nonce epoch first k key cells load slot came at is m =
    let x = mapped now (get slots key) slot (sym (get-map_values (lapsed_slot now) slots key) ∙ at) in
    u from to nonce epoch first k key cells load x.0 came x.1 (lapsed_asking now nonce first x.0.lease (ap (λ (s : Slot). s.lease) x.2 ∙ is)) m

-- what a step leaves has its first sendings
pub step_firsts : (app : Application) (fs : List First) (n : ℕ) (s : Switch) (now : ℕ) (input : Input) → Tidy s → Counted fs n s.inc s.nonces s.slots → Untouched fs n s.inc s.slots input →
    NodeFirsts fs n s.inc s.slots s.copies → let step = switch_step app s now input in NodeFirsts (with_sent n now fs step.1.sent) n step.0.inc step.0.slots step.0.copies
step_firsts app fs n s now input tidy c u h =
    let t = tidy_lapsed s now tidy in
    row_firsts app fs n (lapsed now s) now (lapsed_firsts fs n s.inc now s.slots s.copies h) t.copies (lapsed_counted fs n s.inc s.nonces now s.slots c) t.keys (switch_row app (lapsed now s) now input)
    (lapsed_untouched fs n s.inc now s.slots input u) (row_taken app (lapsed now s) now input)
