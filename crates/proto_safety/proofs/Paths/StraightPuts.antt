-- A Put on a straight path: its output is released at the last hop.
use Rattle.std.proofs.Common.{◌≡◌, ℕ, ◌+◌, ◌<◌, List, [], ◌∷◌, ◌++◌, Option, Some, None, arith, refl, sym, ap, ◌∙◌, subst, inl, inr, true, false, Bool, take, eq-eqb}
use Rattle.std.specs.Prelude.{◌==◌, ◌&&◌, nat_le, option_map, if◌then◌else◌}
use Rattle.std.proofs.lemmas.Bool.{and_from, false≢true}
use Rattle.rp_base.specs.declared.node.Node.{Node}
use Rattle.rp_base.specs.declared.node.Output.{Output}
use Rattle.proto_data.specs.declared.message.Msg.{Msg}
use Rattle.proto_data.specs.declared.message.Body.{Body}
use Rattle.proto_data.specs.declared.message.Entry.{Entry}
use Rattle.proto_data.specs.declared.message.Input.{Input}
use Rattle.proto_data.specs.declared.message.Record.{Record}
use Rattle.proto_data.specs.declared.message.Carried.{Carried}
use Rattle.proto_data.specs.declared.terms.Mode.{Mode}
use Rattle.rp_app.specs.Application.{Application, Delta}
use Rattle.proto_data.specs.Carrying.{carried_output, output_of}
use Rattle.proto_model.specs.Effects.{added}
use Rattle.proto_model.specs.ReplicaRows.{store_message_row, owner_answer, with_entry}
use Rattle.proto_model.specs.ReplicaState.{Replica, record_at}
use Rattle.proto_model.specs.Ring.{remembers}
use Rattle.proto_model.specs.Runs.{Run, before}
use Rattle.proto_model.specs.Slot.{Slot, Lease, Idle, Asking, Held, Lapsed, lapsed_slot, lapsed_lease}
use Rattle.proto_model.specs.Straight.{Hop, StraightPut, PutReleased, PutsRelease, reached, record_of, put_next, owns, slot_of}
use Rattle.proto_model.specs.SwitchRow.{has_epoch, message_row}
use Rattle.proto_model.specs.SwitchOutcomes.{perform}
use Rattle.proto_model.specs.SwitchRows.{switch_step}
use Rattle.proto_model.specs.SwitchState.{Switch, slot_at, lapsed}
use Rattle.key_table.specs.Table.{Key}
use Rattle.proto_model.specs.World.{World, ReplicaNode}
use Rattle.proto_model.specs.WorldStep.{Delivers}
use Rattle.proto_safety.specs.Books.{In, committed_of}
use Rattle.proto_safety.proofs.Store.BookEpochLaws.{books_fit, committed_fits}
use Rattle.proto_safety.proofs.Store.BookEpochs.{one_grant}
use Rattle.proto_safety.proofs.Store.FlowBooks.{granted_in}
use Rattle.proto_safety.proofs.Leasing.LeasesRest.{leases_rest}
use Rattle.proto_safety.proofs.Inductions.RunSteps.{event_at, event_number, at_between}
use Rattle.proto_safety.proofs.Leasing.SlotFirsts.{has_leased}
use Rattle.proto_safety.proofs.Paths.StraightHops.{Answered, OnlyAppends, appending, reaches_tail, next_hop, put_only}
use Rattle.proto_safety.proofs.Paths.StraightTail.{book_fits, record_says, stays_committed, last_flow, hop_delivered, answer_taken, strict_there}
use Rattle.proto_safety.proofs.Paths.StraightWaits.{MarkWaits, still_waits, owner_slot, slot_there, hops_later}
use Rattle.proto_safety.proofs.Packets.HeldRings.{waits_there}
use Rattle.key_table.proofs.Tables.{get-map_values, same_some}
use Rattle.proto_safety.proofs.Basics.Members.{in_among, to_append}
use Rattle.proto_safety.proofs.Basics.Prefixes.{in_prefix}

-- ---- a member of a list

-- ---- an Ack that meets the slot

lapsed_has : (now epoch : ℕ) (l : Lease) → has_epoch l epoch ≡ true → has_epoch (lapsed_lease now l) epoch ≡ true
lapsed_has now epoch Idle h = h
lapsed_has now epoch (Asking nonce first) h = h
lapsed_has now epoch (Held nonce e expiry) h = ends (nat_le expiry now)
  where
    ends : (b : Bool) → has_epoch (if b then Lapsed nonce e expiry else Held nonce e expiry) epoch ≡ true
    ends true = h
    ends false = h
lapsed_has now epoch (Lapsed nonce e expiry) h = h

ack_releases : (app : Application) (s : Switch) (now : ℕ) (m : Msg) (inc epoch upto : ℕ) (key : Key) (c : Carried) (slot : Slot) → s.terms.mode ≡ Mode.Strict → m.body ≡ Body.Ack inc epoch upto key (Some c) → inc ≡ s.inc → slot_at s key ≡ Some slot →
    has_epoch slot.lease epoch ≡ true → remembers slot.held c.mark ≡ true → (switch_step app s now (Input.Msg m)).1.released ≡ Some (output_of c)
ack_releases app s now m inc epoch upto key c slot strict body here found leased there =
    let at : slot_at (lapsed now s) key ≡ Some (lapsed_slot now slot) = get-map_values (lapsed_slot now) s.slots key ∙ ap (option_map (lapsed_slot now)) found in
    let test : ((inc == s.inc) && has_epoch (lapsed_slot now slot).lease epoch) ≡ true = and_from _ _ (eq-eqb inc s.inc here) (lapsed_has now epoch slot.lease leased) in
    ap (λ (b : Body). (perform (lapsed now s) now (message_row app (lapsed now s) now b)).1.released) body
    ∙ rw (at, test, strict, there) refl

-- ---- the answer of the tail

-- the tail's answer to a Put
record AckOf (t : Replica) (epoch number : ℕ) (key : Key) (c : Carried) (m : Msg) : Type 0 where
  rec : Record
  found : record_at t key ≡ Some rec
  to_is : m.to ≡ Node.Switch rec.switch
  body_is : m.body ≡ Body.Ack rec.inc epoch number key (Some c)

ack_of : (t : Replica) (epoch number : ℕ) (key : Key) (delta : Delta) (c : Carried) (m : Msg) (o : Option Record) → record_at t key ≡ o → In (owner_answer t (Entry.Put key epoch number delta) (Some c) o) m → AckOf t epoch number key c m
ack_of t epoch number key delta c m None at i = absurd i
ack_of t epoch number key delta c m (Some rec) at (inl e) = record { rec = rec; found = at; to_is = ap (λ (x : Msg). x.to) (sym e); body_is = ap (λ (x : Msg). x.body) (sym e) }
ack_of t epoch number key delta c m (Some rec) at (inr i) = absurd i

-- ---- the path

module _ (r : Run) (place s : ℕ) (key : Key) (inc epoch number : ℕ) (delta : Delta) (out : Output) (first : Hop) (forwards : List Hop) (last : Hop) (p : StraightPut r place s key inc epoch number delta out first forwards last) where
  abbrev c : Carried
  c = carried_output out

  abbrev entry : Entry
  entry = Entry.Put key epoch number delta

  abbrev end : World
  end = before r last.place

  head_there : (o : Option ReplicaNode) → put_next epoch number (record_of o key) ≡ true → (node : ReplicaNode) × ((o ≡ Some node) × (put_next epoch number (record_at node.state key) ≡ true))
  head_there None h = absurd (false≢true h)
  head_there (Some node) h = (node, (refl, h))

  answered : Answered r c entry last
  answered =
      let head = head_there (reached r first) p.head in
      let next = next_hop r c first.place forwards last p.goes.hops.1 in
      reaches_tail r c entry s first forwards last p.goes.hops.1
      (appending r c first next.0 head.0 entry p.goes.hops.0.delivered head.1.0 next.1
      (subst (λ (b : Body). OnlyAppends head.0.state head.0.clock entry c (store_message_row head.0.state head.0.clock first.msg.from b)) (sym p.put) (put_only head.0.state head.0.clock first.msg.from inc epoch number key delta c head.1.1)))
      p.goes.answered_to p.goes.in_order

  ack : AckOf (with_entry answered.here.node.state entry answered.here.node.clock) epoch number key c last.msg
  ack = ack_of (with_entry answered.here.node.state entry answered.here.node.clock) epoch number key delta c last.msg _ refl answered.there

  waits : MarkWaits end s key first.frame out.mark
  waits = still_waits r place s key inc epoch number delta out first forwards last p

  leased : has_epoch waits.slot.lease epoch ≡ true
  leased =
      let later : place < last.place = hops_later r c place (first ∷ forwards) last p.goes.hops in
      let v = owner_slot epoch (slot_of end s key) (at_between (λ j. owns epoch (slot_of (before r j) s key) ≡ true) place (last.place + 1) last.place p.owned later (omega arith)) in
      let same : v.0 ≡ waits.slot = same_some (slot_of end s key) v.0 waits.slot v.1.0 (slot_there end s key waits.node waits.at ∙ waits.found) in
      ap (λ (x : Slot). has_epoch x.lease epoch) (sym same) ∙ v.1.1

  to_owner : ack.rec.switch ≡ s
  to_owner = let same : Node.Switch ack.rec.switch ≡ Node.Switch s = sym ack.to_is ∙ p.goes.answered_to in cc

  -- the epoch has one Grant, so the Ack is of the switch's incarnation
  same_inc : ack.rec.inc ≡ waits.node.state.inc
  same_inc =
      let flow = record_says r c entry last answered key ack.rec ack.found in
      let epoch_is : ack.rec.epoch ≡ epoch = last_flow r.app.cell_count key _ epoch number delta _ (book_fits r c entry last answered key) flow in
      let granted : In (committed_of end.replicas) (Entry.Grant key ack.rec.epoch ack.rec.switch ack.rec.inc ack.rec.nonce) =
      in_prefix _ _ _ (stays_committed r c entry last answered last.place (omega (arith, answered.later))) (granted_in r.app.cell_count key _ _ flow) in
      let basis = leases_rest r.app r.setup (take last.place r.events) s epoch key waits.node waits.slot waits.at waits.found (has_leased waits.slot.lease epoch leased) in
      (one_grant r.app.cell_count key None (committed_of end.replicas) epoch ack.rec.switch ack.rec.inc ack.rec.nonce s waits.node.state.inc basis.nonce
      (committed_fits r.app.cell_count end key (books_fit r.app r.setup (take last.place r.events)))
      (subst (λ (x : ℕ). In (committed_of end.replicas) (Entry.Grant key x ack.rec.switch ack.rec.inc ack.rec.nonce)) epoch_is granted) basis.granted).inc

  pub released : PutReleased r out last
  released =
      let delivered = hop_delivered r c place (first ∷ forwards) last p.goes.hops in
      let e = event_at r last.place (Delivers last.frame last.msg) delivered in
      let after = answer_taken r s last waits.node delivered p.goes.answered_to waits.at in
      let out_is : (switch_step r.app waits.node.state waits.node.clock (Input.Msg last.msg)).1.released ≡ Some out =
      ack_releases r.app waits.node.state waits.node.clock last.msg ack.rec.inc epoch number key c waits.slot (strict_there r last.place s waits.node p.goes.strict waits.at) ack.body_is same_inc waits.found leased (waits_there waits.waits) in
      let number_is : end.event + 1 ≡ last.place + 1 = ap (λ k. k + 1) (event_number r last.place e.event e.at) in
      let list : (before r (last.place + 1)).history.released ≡ end.history.released ++ record { event = last.place + 1; output = out } ∷ [] =
      ap (λ (w : World). w.history.released) after
      ∙ (ap (λ o. end.history.released ++ added (λ (x : Output). record { event = end.event + 1; output = x }) o) out_is ∙ ap (λ k. end.history.released ++ record { event = k; output = out } ∷ []) number_is) in
      in_among (before r (last.place + 1)).history.released (record { event = last.place + 1; output = out })
      (subst (λ l. In l (record { event = last.place + 1; output = out })) (sym list) (to_append end.history.released (record { event = last.place + 1; output = out } ∷ []) _ (inr (inl refl))))

pub puts_release : (r : Run) → PutsRelease r
puts_release r place s key inc epoch number delta out first forwards last p = released r place s key inc epoch number delta out first forwards last p
