-- In snapshot mode: a leased slot's Grant is committed; a running round has the slot's last number, and without one the last number is committed.
use Rattle.std.proofs.Common.{◌≡◌, ℕ, ◌+◌, List, [], Option, Some, None, arith, refl, sym, ◌∙◌, subst, true, false, Bool, eqb-true, ap}
use Rattle.std.specs.Prelude.{◌-◌, option_map, if◌then◌else◌, nat_le, nat_lt, length, drop}
use Rattle.std.proofs.lemmas.Bool.{false≢true}
use Rattle.proto_data.specs.declared.terms.Mode.{Mode}
use Rattle.proto_data.specs.declared.message.Entry.{Entry}
use Rattle.proto_data.specs.declared.message.Input.{Input}
use Rattle.proto_data.specs.declared.terms.Terms.{Terms}
use Rattle.rp_base.specs.declared.event.Event.{Event}
use Rattle.rp_app.specs.Application.{Application}
use Rattle.key_table.specs.Table.{Key}
use Rattle.proto_model.specs.Slot.{Slot, Lease, Round, Idle, Asking, Held, Lapsed, lapsed_slot, lapsed_lease, extended}
use Rattle.proto_model.specs.SwitchState.{Item, slot_at}
use Rattle.proto_model.specs.SwitchRow.{has_epoch}
use Rattle.proto_model.specs.SwitchRows.{switch_step}
use Rattle.proto_model.specs.World.{Setup, SwitchNode, opened}
use Rattle.proto_model.specs.WorldStep.{world_after, advanced_replicas}
use Rattle.proto_safety.specs.Books.{In, IsPrefix, committed_of}
use Rattle.proto_safety.specs.Flows.{AckedIn}
use Rattle.proto_safety.specs.CellLaws.{RoundRests, SlotRounds}
use Rattle.proto_safety.proofs.Store.FlowBooks.{numbered_grant}
use Rattle.proto_safety.proofs.Inductions.FlowMoves.{View, view, Move, Moves, none, more, elsewhere, lapses, asks, asks_again, takes_grant, forgets, direct, mirrored, acked, idles, resends, keeps_lease, snapped, round_done, sends_chunk, begins_round}
use Rattle.proto_safety.proofs.Inductions.FlowAlarm.{step_moves}
use Rattle.proto_safety.proofs.Inductions.FlowInduction.{step_same}
use Rattle.proto_safety.proofs.Leasing.FlowCopies.{not_strict}
use Rattle.proto_safety.proofs.Messages.FlowReplies.{Told, granted_rests, acked_told}
use Rattle.key_table.proofs.Tables.{same_key-refl}
use Rattle.proto_safety.proofs.Nodes.SwitchNodes.{AllAt, all_set, all_changed, all_advanced, all_opened, all_weaker}
use Rattle.proto_safety.proofs.Leasing.WorldFlows.{Replied, replied_kept, told_input}
use Rattle.proto_safety.proofs.Store.WorldFits.{opened_fits}
use Rattle.proto_safety.proofs.Store.BooksStep.{moved_committed}
use Rattle.proto_safety.proofs.Store.WorldBooks.{books_hold, known_input, advanced_committed, stopped_grows}
use Rattle.proto_safety.proofs.Inductions.Induction.{KeepsGiven, keeps_both, run_kept}
use Rattle.proto_safety.proofs.Basics.Prefixes.{in_prefix}

-- ---- parts of a slot

acked_later : (old new : List Entry) (key : Key) (epoch last : ℕ) → IsPrefix old new → AckedIn old epoch last key → AckedIn new epoch last key
acked_later old new key epoch last p h = record { entry = h.entry; there = in_prefix old new h.entry p h.there; number = h.number; number_is = h.number_is; reaches = h.reaches }

rests_later : (old new : List Entry) (n inc : ℕ) (key : Key) (l : Lease) (last : ℕ) (r : Option Round) → IsPrefix old new → RoundRests old n inc key l last r → RoundRests new n inc key l last r
rests_later old new n inc key Idle last r p h = h
rests_later old new n inc key (Asking nonce first) last r p h = h
rests_later old new n inc key (Held nonce epoch expiry) last None p h = (in_prefix old new _ p h.0, acked_later old new key epoch last p h.1)
rests_later old new n inc key (Held nonce epoch expiry) last (Some r) p h = (in_prefix old new _ p h.0, h.1, acked_later old new key epoch (last - 1) p h.2)
rests_later old new n inc key (Lapsed nonce epoch expiry) last None p h = (in_prefix old new _ p h.0, acked_later old new key epoch last p h.1)
rests_later old new n inc key (Lapsed nonce epoch expiry) last (Some r) p h = (in_prefix old new _ p h.0, h.1, acked_later old new key epoch (last - 1) p h.2)

slot_later : (old new : List Entry) (n inc : ℕ) (key : Key) (o : Option Slot) → IsPrefix old new → SlotRounds old n inc key o → SlotRounds new n inc key o
slot_later old new n inc key None p h = tt
slot_later old new n inc key (Some slot) p h = rests_later old new n inc key slot.lease slot.last slot.round p h

slot_of : (es : List Entry) (n inc : ℕ) (key : Key) (o : Option Slot) (slot : Slot) → o ≡ Some slot → SlotRounds es n inc key o → RoundRests es n inc key slot.lease slot.last slot.round
slot_of es n inc key o slot at h = subst (λ x. SlotRounds es n inc key x) at h

lapsed_rests : (es : List Entry) (n inc now : ℕ) (key : Key) (l : Lease) (last : ℕ) (r : Option Round) → RoundRests es n inc key l last r → RoundRests es n inc key (lapsed_lease now l) last r
lapsed_rests es n inc now key (Held nonce epoch expiry) last r h = held_case (nat_le expiry now)
  where
    held_case : (b : Bool) → RoundRests es n inc key (if b then Lapsed nonce epoch expiry else Held nonce epoch expiry) last r
    held_case true = h
    held_case false = h
lapsed_rests es n inc now key Idle last r h = h
lapsed_rests es n inc now key (Asking nonce first) last r h = h
lapsed_rests es n inc now key (Lapsed nonce epoch expiry) last r h = h

lapsed_slot_rests : (es : List Entry) (n inc now : ℕ) (key : Key) (o : Option Slot) → SlotRounds es n inc key o → SlotRounds es n inc key (option_map (lapsed_slot now) o)
lapsed_slot_rests es n inc now key None h = tt
lapsed_slot_rests es n inc now key (Some slot) h = lapsed_rests es n inc now key slot.lease slot.last slot.round h

granted_of : (es : List Entry) (n inc : ℕ) (key : Key) (nonce epoch expiry last : ℕ) (r : Option Round) → RoundRests es n inc key (Held nonce epoch expiry) last r → In es (Entry.Grant key epoch n inc nonce)
granted_of es n inc key nonce epoch expiry last None h = h.0
granted_of es n inc key nonce epoch expiry last (Some r) h = h.0

-- a leased slot whose round is one with the last number
with_round : (es : List Entry) (n inc : ℕ) (key : Key) (nonce epoch expiry last next : ℕ) (l : Lease) (old : Option Round) (r : Round) → l ≡ Held nonce epoch expiry → r.number ≡ next → AckedIn es epoch (next - 1) key → RoundRests es n inc key l last old → RoundRests es n inc key l next (Some r)
with_round es n inc key nonce epoch expiry last next l old r is e before h =
    let k : RoundRests es n inc key (Held nonce epoch expiry) last old = subst (λ x. RoundRests es n inc key x last old) is h in
    subst (λ x. RoundRests es n inc key x next (Some r)) (sym is) (granted_of es n inc key nonce epoch expiry last old k, e, before)

-- the round is done: its number, the last, is committed
done_rests : (es : List Entry) (n inc t now at epoch upto : ℕ) (key : Key) (l : Lease) (last : ℕ) (r : Round) → has_epoch l epoch ≡ true → r.number ≡ upto → AckedIn es epoch upto key → RoundRests es n inc key l last (Some r) →
    RoundRests es n inc key (extended t now at l) last None
done_rests es n inc t now at epoch upto key Idle last r of e a h = absurd (false≢true of)
done_rests es n inc t now at epoch upto key (Asking nonce first) last r of e a h = absurd (false≢true of)
done_rests es n inc t now at epoch upto key (Held nonce x expiry) last r of e a h =
    let same : x ≡ epoch = eqb-true x epoch of in
    let number : upto ≡ last = sym e ∙ h.1 in (h.0, subst (λ k. AckedIn es k last key) (sym same) (subst (λ m. AckedIn es epoch m key) number a))
done_rests es n inc t now at epoch upto key (Lapsed nonce x expiry) last r of e a h = renew_case (nat_lt now (at + t))
  where
    reached : AckedIn es x last key
    reached =
        let same : x ≡ epoch = eqb-true x epoch of in
        let number : upto ≡ last = sym e ∙ h.1 in subst (λ k. AckedIn es k last key) (sym same) (subst (λ m. AckedIn es epoch m key) number a)

    renew_case : (b : Bool) → RoundRests es n inc key (if b then Held nonce x (at + t) else Lapsed nonce x expiry) last None
    renew_case true = (h.0, reached)
    renew_case false = (h.0, reached)

-- ---- moves

rounds_move : (app : Application) (es : List Entry) (n inc : ℕ) (terms : Terms) (bound now : ℕ) (input : Input) (key : Key) (v u : View) (items : List Item) → Told app.cell_count es n input → terms.mode ≡ Mode.Snapshot bound →
    Move app inc terms now input key v items u → SlotRounds es n inc key v.slot → SlotRounds es n inc key u.slot
rounds_move app es n inc terms bound now input key v u items told m (elsewhere le) h = h
rounds_move app es n inc terms bound now input key v u items told m lapses h = lapsed_slot_rests es n inc now key v.slot h
rounds_move app es n inc terms bound now input key v u items told m (asks slot came of) h = refl
rounds_move app es n inc terms bound now input key v u items told m (asks_again {slot = slot} came of at is young) h = slot_of es n inc key v.slot slot at h
rounds_move app es n inc terms bound now input key v u items told m (takes_grant {from = from} {to = to} {nonce = nonce} {epoch = epoch} {cells = cells} {load = load} came whole at is young) h =
    let there = granted_rests app.cell_count es n inc nonce epoch from to key cells load input came told in
    (there, record { entry = Entry.Grant key epoch n inc nonce; there = there; number = 0; number_is = numbered_grant key key epoch n inc nonce (same_key-refl key); reaches = omega arith })
rounds_move app es n inc terms bound now input key v u items told m (forgets {slot = slot} mark at) h = slot_of es n inc key v.slot slot at h
rounds_move app es n inc terms bound now input key v u items told m (direct b at is mode e clean alone) h = absurd (not_strict terms.mode bound mode m)
rounds_move app es n inc terms bound now input key v u items told m (mirrored b at is mode e) h = absurd (not_strict terms.mode bound mode m)
rounds_move app es n inc terms bound now input key v u items told m (acked came mode at of) h = absurd (not_strict terms.mode bound mode m)
rounds_move app es n inc terms bound now input key v u items told m (idles at) h = refl
rounds_move app es n inc terms bound now input key v u items told m (resends same) h = h
rounds_move app es n inc terms bound now input key v u items told m (keeps_lease mode at is alone) h = absurd (not_strict terms.mode bound mode m)
rounds_move app es n inc terms bound now input key v u items told m (snapped {slot = slot} b at is mode e young) h = slot_of es n inc key v.slot slot at h
rounds_move app es n inc terms bound now input key v u items told m (round_done {from = from} {to = to} {epoch = epoch} {upto = upto} {load = load} {slot = slot} {r = r} came mode at of is e) h =
    done_rests es n inc terms.t_switch now r.begun epoch upto key slot.lease slot.last r of (eqb-true r.number upto e) (acked_told app.cell_count es n inc epoch upto from to key load input came told)
    (subst (λ o. RoundRests es n inc key slot.lease slot.last o) is (slot_of es n inc key v.slot slot at h))
rounds_move app es n inc terms bound now input key v u items told m (sends_chunk {slot = slot} {nonce = nonce} {epoch = epoch} {expiry = expiry} {r = r} at is running) h =
    let k : RoundRests es n inc key (Held nonce epoch expiry) slot.last (Some r) =
    subst (λ l. RoundRests es n inc key l slot.last (Some r)) is (subst (λ o. RoundRests es n inc key slot.lease slot.last o) running (slot_of es n inc key v.slot slot at h)) in
    with_round es n inc key nonce epoch expiry slot.last slot.last slot.lease slot.round _ is k.1 k.2 (slot_of es n inc key v.slot slot at h)
rounds_move app es n inc terms bound now input key v u items told m (begins_round {slot = slot} {nonce = nonce} {epoch = epoch} {expiry = expiry} at is mode idle) h =
    let k : RoundRests es n inc key (Held nonce epoch expiry) slot.last None =
    subst (λ l. RoundRests es n inc key l slot.last None) is (subst (λ o. RoundRests es n inc key slot.lease slot.last o) idle (slot_of es n inc key v.slot slot at h)) in
    let before : slot.last + 1 - 1 ≡ slot.last = omega arith in
    with_round es n inc key nonce epoch expiry slot.last (slot.last + 1) slot.lease slot.round _ is refl (subst (λ m. AckedIn es epoch m key) (sym before) k.1) (slot_of es n inc key v.slot slot at h)

moves_rounds : (app : Application) (es : List Entry) (n inc : ℕ) (terms : Terms) (bound now : ℕ) (input : Input) (key : Key) (v u : View) (items : List Item) → Told app.cell_count es n input → terms.mode ≡ Mode.Snapshot bound →
    Moves app inc terms now input key v items u → SlotRounds es n inc key v.slot → SlotRounds es n inc key u.slot
moves_rounds app es n inc terms bound now input key v _ _ told m none h = h
moves_rounds app es n inc terms bound now input key v u _ told m (more {js = js} {ks = ks} {w = w} ms x) h =
    rounds_move app es n inc terms bound now input key w u ks told m x (moves_rounds app es n inc terms bound now input key v w js told m ms h)

-- ---- the world

abbrev pub NodeRounds : List Entry → ℕ → SwitchNode → Type 0
NodeRounds es n node = (bound : ℕ) → node.state.terms.mode ≡ Mode.Snapshot bound → (key : Key) → SlotRounds es n node.state.inc key (slot_at node.state key)

step_rounds : (app : Application) (es : List Entry) (n : ℕ) (node : SwitchNode) (input : Input) → Told app.cell_count es n input → NodeRounds es n node → NodeRounds es n (record node { state = (switch_step app node.state node.clock input).0 })
step_rounds app es n node input told h bound mode key =
    let same = step_same app node.state node.clock input in
    let was : node.state.terms.mode ≡ Mode.Snapshot bound = ap (λ (t : Terms). t.mode) (sym same.terms) ∙ mode in
    subst (λ i. SlotRounds es n i key (slot_at (switch_step app node.state node.clock input).0 key)) (sym same.inc)
    (moves_rounds app es n node.state.inc node.state.terms bound node.clock input key (view key node.state) (view key (switch_step app node.state node.clock input).0) _ told was (step_moves app node.state node.clock input key) (h bound was key))

later_rounds : (old new : List Entry) (nodes : List SwitchNode) → IsPrefix old new → AllAt (NodeRounds old) nodes → AllAt (NodeRounds new) nodes
later_rounds old new nodes p h = all_weaker (NodeRounds old) (NodeRounds new) nodes (λ n x k bound mode key. slot_later old new n x.state.inc key (slot_at x.state key) p (k bound mode key)) h

pub rounds_kept : (app : Application) → KeepsGiven app (Replied app.cell_count) (λ w. AllAt (NodeRounds (committed_of w.replicas)) w.switches)
rounds_kept app =
    record {
      counts = λ w g h. h;
      passes = λ w i g h. h;
      feeds = λ w n node p at up mark g h. all_set (NodeRounds (committed_of w.replicas)) w.switches n _ (step_rounds app (committed_of w.replicas) n node (Input.Packet p) tt (h n node at)) h;
      switches = λ w n node input at up from g h.
          all_set (NodeRounds (committed_of w.replicas)) w.switches n _ (step_rounds app (committed_of w.replicas) n node input (told_input app.cell_count w n input from g.1) (h n node at)) h;
      replicas = λ w n node input at up from g h.
          later_rounds (committed_of w.replicas) _ w.switches (moved_committed g.0.0.0 w.config w.replicas n node w.event input at up g.0.0.1.configs g.0.0.1.nodes (known_input g.0.0.0 w n input from g.0.0.1)) h;
      advances = λ w by fits g h.
          all_advanced (NodeRounds (committed_of (advanced_replicas w.replicas (drop (length w.switches) by)))) w.switches by (λ m d x k. k)
          (later_rounds (committed_of w.replicas) _ w.switches (advanced_committed w.replicas (drop (length w.switches) by)) h);
      stops_switch = λ w n fits g h. all_changed (NodeRounds (committed_of w.replicas)) w.switches n _ (λ m x k. k) h;
      stops_replica = λ w n fits g h. later_rounds (committed_of w.replicas) _ w.switches (stopped_grows g.0.0.0 w n fits g.0.0.1) h;
      boots = λ w n fits g h. all_changed (NodeRounds (committed_of w.replicas)) w.switches n _ (λ m x k bound mode key. tt) h;
      detects_switch = λ w n fits g h. all_changed (NodeRounds (committed_of w.replicas)) w.switches n _ (λ m x k. k) h;
      detects_replica = λ w n fits g h. h;
      announces = λ w g h. h;
    }

pub rounds_rest : (app : Application) (setup : Setup) (es : List Event) → AllAt (NodeRounds (committed_of (world_after app (opened app.cell_count setup) es).replicas)) (world_after app (opened app.cell_count setup) es).switches
rounds_rest app setup es =
    (run_kept app (λ w. Replied app.cell_count w × AllAt (NodeRounds (committed_of w.replicas)) w.switches)
    (keeps_both app (Replied app.cell_count) (λ w. AllAt (NodeRounds (committed_of w.replicas)) w.switches) (replied_kept app) (rounds_kept app)) es (opened app.cell_count setup) (
      ((books_hold app setup [], opened_fits app.cell_count setup), tt),
      all_opened (NodeRounds (committed_of (opened app.cell_count setup).replicas)) setup (λ n bound mode key. tt),
    )).1
