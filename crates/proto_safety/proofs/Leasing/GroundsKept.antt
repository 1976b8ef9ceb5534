-- Where leases end, over every run.
use Rattle.std.proofs.Common.{◌≡◌, ◌≢◌, ◌⊎◌, inl, inr, ℕ, ◌+◌, List, drop, length, Option, Some, refl, sym, ap, ◌∙◌, subst, true, false, set, slice_get}
use Rattle.rp_base.specs.declared.node.Node.{Node}
use Rattle.proto_data.specs.declared.message.Body.{Body}
use Rattle.proto_data.specs.declared.message.Entry.{Entry}
use Rattle.proto_data.specs.declared.message.Input.{Input}
use Rattle.proto_data.specs.declared.message.Carried.{Carried}
use Rattle.rp_base.specs.declared.node.Packet.{Packet}
use Rattle.rp_app.specs.Application.{Application}
use Rattle.key_table.specs.Table.{Key}
use Rattle.proto_model.specs.Slot.{Slot}
use Rattle.proto_model.specs.SwitchState.{slot_at, open_switch}
use Rattle.proto_model.specs.SwitchRows.{switch_step}
use Rattle.proto_model.specs.ReplicaRows.{store_step}
use Rattle.proto_model.specs.Effects.{switch_moved, replica_moved, frame_passed, master_sent}
use Rattle.proto_model.specs.World.{World, SwitchNode}
use Rattle.proto_model.specs.WorldStep.{advanced, next_event, detected, announcements}
use Rattle.proto_safety.specs.Books.{In, IsPrefix, committed_of}
use Rattle.proto_safety.specs.Flows.{AckedIn}
use Rattle.proto_safety.specs.LeaseLaws.{First, AskOf, LeaseGrounded}
use Rattle.proto_safety.specs.Firsts.{with_sent}
use Rattle.proto_safety.proofs.Nodes.SwitchNodes.{AllAt, all_changed, all_advanced}
use Rattle.proto_safety.proofs.Inductions.FlowInduction.{step_same}
use Rattle.proto_safety.proofs.Messages.FlowReplies.{acked_told}
use Rattle.proto_safety.proofs.Nodes.SwitchTable.{msg}
use Rattle.proto_safety.proofs.Store.BooksStep.{moved_committed}
use Rattle.proto_safety.proofs.Store.WorldBooks.{known_input, advanced_committed, stopped_grows}
use Rattle.proto_safety.proofs.Leasing.WorldFlows.{told_input}
use Rattle.proto_safety.proofs.Leasing.FirstSendings.{sending, sent_keeps}
use Rattle.proto_safety.proofs.Leasing.PutsKept.{SlotWas}
use Rattle.proto_safety.proofs.Leasing.SwitchSince.{step_since}
use Rattle.proto_safety.proofs.Leasing.CopyNumbers.{AllPositive, positive_kept, positive_at}
use Rattle.proto_safety.proofs.Leasing.Ground.{known_of}
use Rattle.proto_safety.proofs.Leasing.WorldPutsKept.{SlotsWere, as_they_were, no_slots, same_prefix, told_grant, fed_grant}
use Rattle.proto_safety.proofs.Leasing.WorldFirsts.{FirstsHold}
use Rattle.proto_safety.proofs.Leasing.FirstsKept.{Settled, settled_kept, firsts_kept_by}
use Rattle.proto_safety.proofs.Leasing.Grounds.{lease_later, lease_now}
use Rattle.proto_safety.proofs.Inductions.FirstsInduction.{KeepsFirsts}
use Rattle.proto_safety.proofs.Inductions.Induction.{Keeps, keeps_all, with_fed}
use Rattle.proto_safety.proofs.Basics.Lists.{at_set, get-set_same}

-- each lease ends one term after the first sending of a request whose entry is committed
abbrev pub GroundsHold : List First → World → Type 0
GroundsHold fs w = (n : ℕ) (node : SwitchNode) (key : Key) (slot : Slot) → slice_get w.switches n ≡ Some node → slot_at node.state key ≡ Some slot → LeaseGrounded fs w n node.state.inc key slot.lease

-- what stands, with numbers of copies
abbrev pub Standing : Application → World → Type 0
Standing app w = Settled app.cell_count w × AllPositive app w

pub standing_kept : (app : Application) → Keeps app (Standing app)
standing_kept app = keeps_all app (Settled app.cell_count) (AllPositive app) (settled_kept app) (positive_kept app)

-- slots that are as they were
same_leases : (fs : List First) (w x : World) → x.terms ≡ w.terms → IsPrefix (committed_of w.replicas) (committed_of x.replicas) → AllAt (SlotsWere w.switches) x.switches → GroundsHold fs w → GroundsHold fs x
same_leases fs w x terms grows slots h n node key slot at found =
    let s : SlotWas w.switches n node key slot = slots n node at key slot found in
    subst (λ (i : ℕ). LeaseGrounded fs x n i key slot.lease) (sym s.inc) (lease_later fs fs w x n s.node_was.state.inc key slot.lease (λ f i. i) terms grows (h n s.node_was key slot s.at s.found))

module _ (app : Application) (w : World) (fs : List First) (n : ℕ) (node : SwitchNode) (input : Input) (at : slice_get w.switches n ≡ Some node) (x : World) (terms : x.terms ≡ w.terms) (replicas : x.replicas ≡ w.replicas)
    (switches : x.switches ≡ set w.switches n (record node { state = (switch_step app node.state node.clock input).0 })) (g : Standing app w)
    (told : (from to : Node) (nonce e : ℕ) (key : Key) (values : List ℕ) (load : Option Carried) → input ≡ msg from to (Body.Grant node.state.inc nonce e key values load) → In (committed_of w.replicas) (Entry.Grant key e n node.state.inc nonce))
    (acked : (from to : Node) (epoch upto : ℕ) (key : Key) (load : Option Carried) → input ≡ msg from to (Body.Ack node.state.inc epoch upto key load) → AckedIn (committed_of w.replicas) epoch upto key)
    (f : FirstsHold fs w) (later : FirstsHold (with_sent n node.clock fs (switch_step app node.state node.clock input).1.sent) x) (h : GroundsHold fs w) where
  abbrev gs : List First
  gs = with_sent n node.clock fs (switch_step app node.state node.clock input).1.sent

  abbrev moved : SwitchNode
  moved = record node { state = (switch_step app node.state node.clock input).0 }

  grows : IsPrefix (committed_of w.replicas) (committed_of x.replicas)
  grows = subst (λ r. IsPrefix (committed_of w.replicas) (committed_of r)) (sym replicas) (same_prefix (committed_of w.replicas))

  own : (key : Key) (slot : Slot) → slot_at moved.state key ≡ Some slot → LeaseGrounded gs x n moved.state.inc key slot.lease
  own key slot found =
      let inc = (step_same app node.state node.clock input).inc in
      let here : slice_get x.switches n ≡ Some moved = subst (λ l. slice_get l n ≡ Some moved) (sym switches) (get-set_same w.switches n node moved at) in
      subst (λ (i : ℕ). LeaseGrounded gs x n i key slot.lease) (sym inc)
      (lease_now app fs gs w x n node input terms (g.0.0.1.1.switches n node at) grows (λ y i. sent_keeps n node.clock fs (switch_step app node.state node.clock input).1.sent y i) (f.nodes n node at) (known_of app.cell_count w g.0.0).committed_fits (λ c i. positive_at app w n node c g.1 at i)
      (λ k s r is runs. ((known_of app.cell_count w g.0.0).rounds n node k s r at is runs).0) told acked
      (λ k s is. h n node k s at is) key slot.lease
      (λ nonce first is. subst (λ (i : ℕ). In gs (sending n first key (AskOf i nonce))) inc ((later.nodes n moved here).asking key slot nonce first found is))
      (step_since app node.state node.clock input key slot found))

  moved_grounds : GroundsHold gs x
  moved_grounds m other key slot there found = node_case (at_set w.switches n m moved other (subst (λ l. slice_get l m ≡ Some other) switches there))
    where
      node_case : ((m ≡ n) × (other ≡ moved)) ⊎ ((m ≢ n) × (slice_get w.switches m ≡ Some other)) → LeaseGrounded gs x m other.state.inc key slot.lease
      node_case (inl same) = rw (same.0, same.1) (own key slot (ap (λ (y : SwitchNode). slot_at y.state key) (sym same.1) ∙ found))
      node_case (inr p) = lease_later fs gs w x m other.state.inc key slot.lease (λ y i. sent_keeps n node.clock fs (switch_step app node.state node.clock input).1.sent y i) terms grows (h m other key slot p.1 found)

-- ---- every change

fed_ack : (es : List Entry) (inc : ℕ) (p : Packet) (from to : Node) (epoch upto : ℕ) (key : Key) (load : Option Carried) → Input.Packet p ≡ msg from to (Body.Ack inc epoch upto key load) → AckedIn es epoch upto key
fed_ack es inc p from to epoch upto key load came = absurd cc

abbrev pub LeasesHold : List First → World → Type 0
LeasesHold fs w = FirstsHold fs w × GroundsHold fs w

pub leases_kept : (app : Application) → KeepsFirsts app (Standing app) LeasesHold
leases_kept app =
    record {
      counts = λ w fs g h. (k.counts w fs g.0 h.0, same_leases fs w (next_event w) refl (same_prefix (committed_of w.replicas)) (as_they_were w.switches) h.1);
      passes = λ w fs i g h. (k.passes w fs i g.0 h.0, same_leases fs w (frame_passed w i) refl (same_prefix (committed_of w.replicas)) (as_they_were w.switches) h.1);
      feeds = λ w fs n node p at up mark g h.
          let later = k.feeds w fs n node p at up mark g.0 h.0 in (
            later,
            moved_grounds app w fs n node (Input.Packet p) at (switch_moved (with_fed w p) n node (switch_step app node.state node.clock (Input.Packet p))) refl refl refl g (fed_grant (committed_of w.replicas) n node.state.inc p)
                (fed_ack (committed_of w.replicas) node.state.inc p) h.0 later h.1,
          );
      switches = λ w fs n node input at up from g h.
          let later = k.switches w fs n node input at up from g.0 h.0 in (
            later,
            moved_grounds app w fs n node input at (switch_moved w n node (switch_step app node.state node.clock input)) refl refl refl g (told_grant app w n node input from g.0.0)
                (λ a b epoch upto key load came. acked_told app.cell_count (committed_of w.replicas) n node.state.inc epoch upto a b key load input came (told_input app.cell_count w n input from g.0.0.0.0.0.1)) h.0 later h.1,
          );
      replicas = λ w fs n node input at up from g h. (
        k.replicas w fs n node input at up from g.0 h.0,
        same_leases fs w (replica_moved w n node (store_step node.state node.clock input)) refl
            (moved_committed g.0.0.0.0.0.0.0.0 w.config w.replicas n node w.event input at up g.0.0.0.0.0.0.0.1.configs g.0.0.0.0.0.0.0.1.nodes (known_input g.0.0.0.0.0.0.0.0 w n input from g.0.0.0.0.0.0.0.1)) (as_they_were w.switches) h.1,
      );
      advances = λ w fs by fits g h. (
        k.advances w fs by fits g.0 h.0,
        same_leases fs w (advanced w by) refl (advanced_committed w.replicas (drop (length w.switches) by))
            (all_advanced (SlotsWere w.switches) w.switches by (λ m d x j key slot found. let s = j key slot found in record { node_was = s.node_was; at = s.at; found = s.found; inc = s.inc }) (as_they_were w.switches)) h.1,
      );
      stops_switch = λ w fs n fits g h. (
        k.stops_switch w fs n fits g.0 h.0,
        same_leases fs w _ refl (same_prefix (committed_of w.replicas))
            (all_changed (SlotsWere w.switches) w.switches n (λ (s : SwitchNode). record s { runs = false }) (λ m x j key slot found. let s = j key slot found in record { node_was = s.node_was; at = s.at; found = s.found; inc = s.inc }) (as_they_were w.switches)) h.1,
      );
      stops_replica = λ w fs n fits g h. (k.stops_replica w fs n fits g.0 h.0, same_leases fs w _ refl (stopped_grows g.0.0.0.0.0.0.0.0 w n fits g.0.0.0.0.0.0.0.1) (as_they_were w.switches) h.1);
      boots = λ w fs n fits g h. (
        k.boots w fs n fits g.0 h.0,
        same_leases fs w _ refl (same_prefix (committed_of w.replicas))
            (all_changed (SlotsWere w.switches) w.switches n (λ (s : SwitchNode). record s { runs = true; state = open_switch s.state.me (s.state.inc + 1) w.terms w.config }) (no_slots w.switches w) (as_they_were w.switches)) h.1,
      );
      detects_switch = λ w fs n fits g h. (
        k.detects_switch w fs n fits g.0 h.0,
        same_leases fs w _ refl (same_prefix (committed_of w.replicas))
            (all_changed (SlotsWere w.switches) w.switches n (λ (s : SwitchNode). record s { believed = s.runs }) (λ m x j key slot found. let s = j key slot found in record { node_was = s.node_was; at = s.at; found = s.found; inc = s.inc }) (as_they_were w.switches)) h.1,
      );
      detects_replica = λ w fs n fits g h. (k.detects_replica w fs n fits g.0 h.0, same_leases fs w (detected w (Node.Replica n)) refl (same_prefix (committed_of w.replicas)) (as_they_were w.switches) h.1);
      announces = λ w fs g h. (k.announces w fs g.0 h.0, same_leases fs w (master_sent w (announcements w)) refl (same_prefix (committed_of w.replicas)) (as_they_were w.switches) h.1);
    }
  where
    k : KeepsFirsts app (Settled app.cell_count) FirstsHold
    k = firsts_kept_by app
