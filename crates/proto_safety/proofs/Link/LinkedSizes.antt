-- Each frame of a run over a link has a spelling: a run takes at most one turn an event and one a datagram.
use Rattle.std.proofs.Common.{◌≡◌, ℕ, ◌+◌, ◌≤◌, List, [], ◌∷◌, ◌++◌, length, Option, Some, None, arith, refl, true, false, Bool, zero, suc, fold}
use Rattle.std.specs.Prelude.{if◌then◌else◌}
use Rattle.rp_base.specs.declared.node.Node.{Node}
use Rattle.rp_base.specs.declared.event.Event.{Event}
use Rattle.proto_data.specs.declared.message.Msg.{Msg}
use Rattle.proto_data.specs.MessageFits.{message_fits}
use Rattle.rp_app.specs.Application.{Application, IsApplication}
use Rattle.proto_model.specs.Feeds.{Each}
use Rattle.proto_model.specs.Handing.{hand, found}
use Rattle.proto_model.specs.Pumping.{Received, Pumped, goes_on, datagram, answered, asked, pumped_node, pumped_unless, running_nodes, acted, linked_event, linked_run}
use Rattle.proto_model.specs.World.{Setup, opened}
use Rattle.proto_model.specs.WorldStep.{Act, Refuses, Feeds, Delivers, Passes, Advances, Alarms, Stops, Boots, Detects, Announces, Pumps, act_of, perform_act, next_event, frames_full}
use Rattle.proto_model.specs.Lines.{Refused}
use Rattle.rp_base.specs.declared.event.Refusal.{Refusal}
use Rattle.proto_safety.specs.Sizes.{EventSized, SizedAt}
use Rattle.proto_safety.proofs.Size.WorldSizes.{event_sized_at, hand_sized, opened_sized, sized_fits_at}

module _ (spelled : Msg → List ℕ) (app : Application) (is : IsApplication app) (few : app.cell_count ≤ 256) where
  -- the numbers and the answers that are left come to at most t
  abbrev Within : ℕ → Pumped → Type 0
  Within t p = (b : ℕ) × (SizedAt b app p.world × (b + length p.rest ≤ t))

  datagram_within : (t : ℕ) (node : Node) (p : Pumped) (o : Option ℕ) (b : ℕ) → SizedAt b app p.world → b + 1 + length p.rest ≤ t → Within t (datagram app node p o)
  datagram_within t node p None b h le = (b, (h, omega (arith, le)))
  datagram_within t node p (Some i) b h le = full_case (frames_full p.world)
    where
      full_case : (full : Bool) → Within t (if full then record p { lines = p.lines ++ Refused p.world.event Refusal.FramesFull ∷ []; ended = true } else goes_on p (hand app p.world i))
      full_case true = (b, (h, omega (arith, le)))
      full_case false = (b + 1, (hand_sized app is few p.world b i h, le))

  answered_within : (t : ℕ) (node : Node) (p : Pumped) (o : Option (List ℕ)) (b : ℕ) → SizedAt b app p.world → b + 1 + length p.rest ≤ t → Within t (answered spelled app node p o).0
  answered_within t node p None b h le = (b, (h, omega (arith, le)))
  answered_within t node p (Some bytes) b h le = datagram_within t node p (found spelled p.world node bytes) b h le

  asked_within : (t : ℕ) (node : Node) (p : Pumped) (rest : List Received) (b : ℕ) → p.rest ≡ rest → SizedAt b app p.world → b + length rest ≤ t → Within t (asked spelled app node p rest).0
  asked_within t node p [] b at h le = (b, (h, rw at le))
  asked_within t node p (x ∷ xs) b at h le = answered_within t node (record p { rest = xs }) x.bytes b h (omega (arith, le))

  node_within : (t : ℕ) (node : Node) (n : ℕ) (p : Pumped) → Within t p → Within t (pumped_node spelled app node n p)
  node_within t node zero p h = h
  node_within t node (suc n) p h =
      let x = asked_within t node p p.rest h.0 refl h.1.0 h.1.1 in
      more_case (asked spelled app node p p.rest).1 (node_within t node n (asked spelled app node p p.rest).0 x) x
    where
      more_case : (more : Bool) → Within t (pumped_node spelled app node n (asked spelled app node p p.rest).0) → Within t (asked spelled app node p p.rest).0 →
          Within t (elim more [ true ↦ pumped_node spelled app node n (asked spelled app node p p.rest).0 | false ↦ (asked spelled app node p p.rest).0 ])
      more_case true a b = a
      more_case false a b = b

  unless_within : (t : ℕ) (ended : Bool) (node : Node) (p : Pumped) → Within t p → Within t (pumped_unless ended spelled app node p)
  unless_within t true node p h = h
  unless_within t false node p h = node_within t node 64 p h

  nodes_within : (t : ℕ) (nodes : List Node) (p : Pumped) → Within t p → Within t (fold (λ (q : Pumped) node. pumped_unless q.ended spelled app node q) p nodes)
  nodes_within t [] p h = h
  nodes_within t (node ∷ nodes) p h = nodes_within t nodes (pumped_unless p.ended spelled app node p) (unless_within t p.ended node p h)

  acted_within : (t : ℕ) (p : Pumped) (act : Act) (b : ℕ) → SizedAt b app (perform_act app p.world act).0 → b + length p.rest ≤ t → Within t (acted spelled app p act)
  acted_within t p Pumps b h le = nodes_within t (running_nodes p.world) (record p { ended = false }) (b, (h, le))
  acted_within t p (Refuses cause) b h le = (b, (h, le))
  acted_within t p (Feeds n x) b h le = (b, (h, le))
  acted_within t p (Delivers i m) b h le = (b, (h, le))
  acted_within t p (Passes i) b h le = (b, (h, le))
  acted_within t p (Advances by) b h le = (b, (h, le))
  acted_within t p (Alarms node) b h le = (b, (h, le))
  acted_within t p (Stops node) b h le = (b, (h, le))
  acted_within t p (Boots n) b h le = (b, (h, le))
  acted_within t p (Detects node) b h le = (b, (h, le))
  acted_within t p Announces b h le = (b, (h, le))

  events_within : (t : ℕ) (events : List Event) (p : Pumped) → Each EventSized events → (b : ℕ) → SizedAt b app p.world → b + length p.rest + length events ≤ t → Within t (fold (linked_event spelled app) p events)
  events_within t [] p k b h le = (b, (h, omega (arith, le)))
  events_within t (e ∷ es) p k b h le =
      let x = acted_within (b + 1 + length p.rest) (record p { world = next_event p.world }) (act_of app (next_event p.world) e) (b + 1) (event_sized_at app is few p.world b e k.0 h) (omega arith) in
      events_within t es (linked_event spelled app p e) k.1 x.0 x.1.0 (omega (arith, x.1.1, le))

  pub linked_fits : (setup : Setup) → setup.switches ≤ 8 → 1 ≤ setup.replicas → setup.replicas ≤ 5 → (events : List Event) (received : List Received) → Each EventSized events → length events + length received ≤ 4000000000 →
      Each (λ (m : Msg). message_fits m ≡ true) (linked_run spelled app setup events received).world.frames
  linked_fits setup switches some replicas events received k small =
      let x = events_within (1 + length received + length events) events (record { world = opened app.cell_count setup; lines = []; rest = received; ended = false }) k 1 (opened_sized app setup switches some replicas) (omega arith) in
      sized_fits_at app (linked_run spelled app setup events received).world x.0 (omega (arith, x.1.1, small)) x.1.0
