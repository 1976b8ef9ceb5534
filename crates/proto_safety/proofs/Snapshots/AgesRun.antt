-- What the ages of leased slots cover, over every snapshot run whose terms hold.
use Rattle.std.proofs.Common.{◌≡◌, ℕ, ◌+◌, ◌≤◌, List, [], ◌∷◌, ◌++◌, Option, Some, None, arith, subst}
use Rattle.rp_base.specs.Clocks.{TermsHold}
use Rattle.rp_base.specs.declared.event.Event.{Event}
use Rattle.proto_data.specs.declared.message.Entry.{Entry}
use Rattle.proto_data.specs.declared.message.Input.{Input}
use Rattle.proto_data.specs.declared.terms.Mode.{Mode}
use Rattle.rp_app.specs.Application.{Application}
use Rattle.key_table.specs.Table.{Key}
use Rattle.proto_model.specs.Slot.{Round, Ages}
use Rattle.proto_model.specs.SwitchRows.{switch_step}
use Rattle.proto_model.specs.Effects.{switch_moved}
use Rattle.proto_model.specs.World.{World, Setup, SwitchNode, Journaled, RoundBegun, opened}
use Rattle.proto_model.specs.WorldStep.{world_after}
use Rattle.proto_safety.specs.Books.{In, committed_of}
use Rattle.proto_safety.proofs.Serial.CellsGround.{known}
use Rattle.proto_safety.proofs.Inductions.FlowInduction.{step_same}
use Rattle.proto_safety.proofs.Messages.FramesCarry.{found_new}
use Rattle.proto_safety.proofs.Leasing.NoCopies.{no_copies_at}
use Rattle.proto_safety.proofs.Snapshots.SnapAges.{AgesAt, AgesTable}
use Rattle.proto_safety.proofs.Snapshots.SnapRun.{Celled, celled_kept, celled_after, snap_facts}
use Rattle.proto_safety.proofs.Snapshots.SnapStep.{all_ages}
use Rattle.proto_safety.proofs.Nodes.SwitchNodes.{AllAt, all_changed, all_advanced, all_opened}
use Rattle.proto_safety.proofs.Nodes.SwitchTable.{no_message}
use Rattle.proto_safety.proofs.Snapshots.WorldSnaps.{brought_by, packet_carried, fed_hold}
use Rattle.proto_safety.proofs.Inductions.Induction.{KeepsGiven, keeps_both, run_kept, with_fed}
use Rattle.proto_safety.proofs.Basics.Lists.{get-set_same}

abbrev AgesIn : World → ℕ → SwitchNode → Type 0
AgesIn w n node = AgesTable w.history.items w.history.rounds node.clock node.state.slots

abbrev pub AgesHold : World → Type 0
AgesHold w = AllAt (AgesIn w) w.switches

later_ages : (items : List Journaled) (rounds : List RoundBegun) (now d : ℕ) (key : Key) (e last : ℕ) (ages : Ages) (round : Option Round) → AgesAt items rounds now key e last ages round → AgesAt items rounds (now + d) key e last ages round
later_ages items rounds now d key e last ages round h =
    (h.0, (λ m is. let le : m ≤ now = h.1.0 m is in omega (arith, le), λ m is. let le : m ≤ now = h.1.1 m is in omega (arith, le)))

pub ages_kept : (app : Application) (bound : ℕ) → KeepsGiven app (Celled app bound) AgesHold
ages_kept app bound =
    record {
      counts = λ w c h. h;
      passes = λ w n c h. h;
      feeds = λ w n node p at up mark c h.
          let f = snap_facts app bound w c.0 in
          let x = switch_moved (with_fed w p) n node (switch_step app node.state node.clock (Input.Packet p)) in
          let g = snap_facts app bound x ((celled_kept app bound).feeds w n node p at up mark c).0 in
          all_ages app w (w.history.fed ++ record { event = w.event + 1; packet = p } ∷ []) n bound node (Input.Packet p) f.settled f.ends (no_copies_at app w n bound node f.copyless at (f.modes n node at)) (f.modes n node at) (fed_hold app bound w f p c.1) at up
          (found_new w.history.fed (record { event = w.event + 1; packet = p }) w.event mark f.once.within) (λ c key from to inc nonce epoch cells is. absurd (no_message p from to is)) (w.event + 1) h
          (λ key e l.
          let r = (known app x g.settled g.ends).leased n (record node { state = (switch_step app node.state node.clock (Input.Packet p)).0 }) key l.slot e (get-set_same w.switches n node _ at) l.found l.leased in
          record { nonce = r.nonce; there = subst (λ i. In (committed_of w.replicas) (Entry.Grant key e n i r.nonce)) (step_same app node.state node.clock (Input.Packet p)).inc r.there });
      switches = λ w n node input at up from c h.
          let f = snap_facts app bound w c.0 in
          let x = switch_moved w n node (switch_step app node.state node.clock input) in
          let g = snap_facts app bound x ((celled_kept app bound).switches w n node input at up from c).0 in
          all_ages app w w.history.fed n bound node input f.settled f.ends (no_copies_at app w n bound node f.copyless at (f.modes n node at)) (f.modes n node at) c.1 at up (brought_by app bound w f n input from)
          (λ c key a b inc nonce epoch cells is. packet_carried app bound w f input n from c key a b inc nonce epoch cells is) w.event h
          (λ key e l.
          let r = (known app x g.settled g.ends).leased n (record node { state = (switch_step app node.state node.clock input).0 }) key l.slot e (get-set_same w.switches n node _ at) l.found l.leased in
          record { nonce = r.nonce; there = subst (λ i. In (committed_of w.replicas) (Entry.Grant key e n i r.nonce)) (step_same app node.state node.clock input).inc r.there });
      replicas = λ w n node input at up from c h. h;
      advances = λ w by fits c h. all_advanced (AgesIn w) w.switches by (λ m d x s key slot e found leased. later_ages w.history.items w.history.rounds x.clock d key e slot.last slot.ages slot.round (s key slot e found leased)) h;
      stops_switch = λ w n fits c h. all_changed (AgesIn w) w.switches n _ (λ m x s. s) h;
      stops_replica = λ w n fits c h. h;
      boots = λ w n fits c h. all_changed (AgesIn w) w.switches n _ (λ m x s key slot e found leased. let none : None ≡ Some slot = found in cc) h;
      detects_switch = λ w n fits c h. all_changed (AgesIn w) w.switches n _ (λ m x s. s) h;
      detects_replica = λ w n fits c h. h;
      announces = λ w c h. h;
    }

pub ages_after : (app : Application) (setup : Setup) (bound : ℕ) → setup.terms.mode ≡ Mode.Snapshot bound → TermsHold setup.terms.t_switch setup.terms.t_store setup.terms.ratio → (events : List Event) →
    AgesHold (world_after app (opened app.cell_count setup) events)
ages_after app setup bound mode hold events =
    (run_kept app (λ w. Celled app bound w × AgesHold w) (keeps_both app (Celled app bound) AgesHold (celled_kept app bound) (ages_kept app bound)) events (opened app.cell_count setup)
    (celled_after app setup bound mode hold [], all_opened (λ n (node : SwitchNode). AgesTable [] [] node.clock node.state.slots) setup (λ n key slot e found leased. let none : None ≡ Some slot = found in cc))).1
