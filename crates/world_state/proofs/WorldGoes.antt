-- What an act makes of a world as it is kept is what it makes of the world that it stands for.
use Rattle.std.proofs.Common.{◌≡◌, ℕ, zero, suc, ◌+◌, List, [], ◌∷◌, ◌++◌, length, Option, Some, None, refl, ap, sym, ◌∙◌, Bool, true, false, slice_get, set, take, drop, arith, subst}
use Rattle.std.specs.Prelude.{not, ◌&&◌}
use Rattle.std.proofs.lemmas.Bool.{and_from, both_ways}
use Rattle.rp_base.specs.declared.line.Line.{Line as Shown}
use Rattle.rp_base.specs.declared.node.Node.{Node}
use Rattle.rp_app.specs.Application.{Application}
use Rattle.proto_data.specs.declared.message.Input.{Input}
use Rattle.proto_model.specs.World.{World, SwitchNode, ReplicaNode}
use Rattle.proto_model.specs.WorldStep.{Act, Refuses, Feeds, Delivers, Passes, Advances, Alarms, Stops, Boots, Detects, Announces, Pumps, advanced_switches, advanced_replicas, changed_at, node_takes, switch_takes, replica_takes, perform_act, detected, runs_now, runs_at_switch, runs_at_replica, believed_up}
use Rattle.proto_model.specs.SwitchState.{open_switch}
use Rattle.proto_safety.specs.Books.{In}
use Rattle.proto_safety.specs.Changes.{Fits}
use Rattle.proto_safety.specs.Sizes.{Running}
use Rattle.proto_safety.proofs.Store.Chains.{in_any}
use Rattle.reroute.specs.Routes.{up_at, is_up, seen as seen_routes}
use Rattle.run_history.specs.Shown.{shown_step}
use Rattle.world_state.specs.declared.nodes.SwitchNode.{SwitchNode as SwitchSeat}
use Rattle.world_state.specs.declared.nodes.ReplicaNode.{ReplicaNode as ReplicaSeat}
use Rattle.world_state.specs.declared.state.WorldState.{WorldState}
use Rattle.world_state.specs.Nodes.{switch_node, switch_nodes, replica_node, replica_nodes, switch_stops, replica_stops, switches_later, replicas_later}
use Rattle.world_state.specs.Steps.{Step, switch_goes, replica_goes, node_goes, boots_at, begins_again, detects, fed, goes, passes}
use Rattle.world_state.specs.Turns.{switch_turned, replica_turned}
use Rattle.world_state.specs.WorldStates.{world_of}
use Rattle.world_state.proofs.NodeLists.{believed_there, length_switches, later_switches, later_replicas, changed_switch, changed_replica, set_changes, none_changes}

-- what a step comes to
abbrev pub seen : Step → World × List Shown
seen step = (world_of step.0, step.1)

-- ---- one member of the nodes

switch_at : (bs : List Bool) (ss : List SwitchSeat) (n : ℕ) (s : SwitchSeat) → length bs ≡ length ss → slice_get ss n ≡ Some s → slice_get (switch_nodes bs ss) n ≡ Some (switch_node (up_at (slice_get bs n)) s)
switch_at [] [] n s same is = cc
switch_at [] (x ∷ xs) n s same is = absurd (omega (arith, same))
switch_at (b ∷ bs) [] n s same is = cc
switch_at (b ∷ bs) (x ∷ xs) zero s same is = let e : x ≡ s = cc in ap (λ y. Some (switch_node b y)) e
switch_at (b ∷ bs) (x ∷ xs) (suc n) s same is = switch_at bs xs n s (omega (arith, same)) is

no_switch : (bs : List Bool) (ss : List SwitchSeat) (n : ℕ) → slice_get ss n ≡ None → slice_get (switch_nodes bs ss) n ≡ None
no_switch [] ss n is = refl
no_switch (b ∷ bs) [] n is = refl
no_switch (b ∷ bs) (x ∷ xs) zero is = cc
no_switch (b ∷ bs) (x ∷ xs) (suc n) is = no_switch bs xs n is

set_switch : (bs : List Bool) (ss : List SwitchSeat) (n : ℕ) (s : SwitchSeat) → switch_nodes bs (set ss n s) ≡ set (switch_nodes bs ss) n (switch_node (up_at (slice_get bs n)) s)
set_switch [] ss n s = refl
set_switch (b ∷ bs) [] n s = refl
set_switch (b ∷ bs) (x ∷ xs) zero s = refl
set_switch (b ∷ bs) (x ∷ xs) (suc n) s = ap (λ ns. switch_node b x ∷ ns) (set_switch bs xs n s)

replica_at : (rs : List ReplicaSeat) (n : ℕ) (r : ReplicaSeat) → slice_get rs n ≡ Some r → slice_get (replica_nodes rs) n ≡ Some (replica_node r)
replica_at [] n r is = cc
replica_at (x ∷ xs) zero r is = let e : x ≡ r = cc in ap (λ y. Some (replica_node y)) e
replica_at (x ∷ xs) (suc n) r is = replica_at xs n r is

no_replica : (rs : List ReplicaSeat) (n : ℕ) → slice_get rs n ≡ None → slice_get (replica_nodes rs) n ≡ None
no_replica [] n is = refl
no_replica (x ∷ xs) zero is = cc
no_replica (x ∷ xs) (suc n) is = no_replica xs n is

set_replica : (rs : List ReplicaSeat) (n : ℕ) (r : ReplicaSeat) → replica_nodes (set rs n r) ≡ set (replica_nodes rs) n (replica_node r)
set_replica [] n r = refl
set_replica (x ∷ xs) zero r = refl
set_replica (x ∷ xs) (suc n) r = ap (λ ns. replica_node x ∷ ns) (set_replica xs n r)

-- only as many advances count as there are switches
few_advances : (bs : List Bool) (ss : List SwitchSeat) (by : List ℕ) → advanced_switches (switch_nodes bs ss) (take (length ss) by) ≡ advanced_switches (switch_nodes bs ss) by
few_advances [] ss by = refl
few_advances (b ∷ bs) [] by = refl
few_advances (b ∷ bs) (s ∷ ss) [] = refl
few_advances (b ∷ bs) (s ∷ ss) (d ∷ ds) = ap (λ ns. record (switch_node b s) { clock = s.clock + d } ∷ ns) (few_advances bs ss ds)

-- what routing believes of a switch becomes true
detected_switches : (bs : List Bool) (ss : List SwitchSeat) (n : ℕ) → length bs ≡ length ss →
    switch_nodes (set bs n (runs_at_switch (slice_get (switch_nodes bs ss) n))) ss ≡ changed_at (switch_nodes bs ss) n (λ (x : SwitchNode). record x { believed = x.runs })
detected_switches [] ss n same = refl
detected_switches (b ∷ bs) [] n same = absurd (omega (arith, same))
detected_switches (b ∷ bs) (s ∷ ss) zero same = refl
detected_switches (b ∷ bs) (s ∷ ss) (suc n) same = ap (λ ns. switch_node b s ∷ ns) (detected_switches bs ss n (omega (arith, same)))

-- ---- turns

module _ (app : Application) (s : WorldState) (same : length s.router.believed ≡ length s.switches) where
  abbrev w : World
  w = world_of s

  switch_case : (n : ℕ) (input : Input) (o : Option SwitchSeat) → slice_get s.switches n ≡ o → seen (switch_goes app s n input o) ≡ shown_step (switch_takes app w n input (slice_get w.switches n))
  switch_case n input None is = rw (no_switch s.router.believed s.switches n is) refl
  switch_case n input (Some node) is =
      let turned = switch_turned app node input in
      rw (switch_at s.router.believed s.switches n node same is)
      (ap (λ ns. (record (seen (switch_goes app s n input (Some node))).0 { switches = ns }, (seen (switch_goes app s n input (Some node))).1)) (set_switch s.router.believed s.switches n turned.0))

  replica_case : (n : ℕ) (input : Input) (o : Option ReplicaSeat) → slice_get s.replicas n ≡ o → seen (replica_goes s n input o) ≡ shown_step (replica_takes w n input (slice_get w.replicas n))
  replica_case n input None is = rw (no_replica s.replicas n is) refl
  replica_case n input (Some node) is =
      let turned = replica_turned node s.event input in
      rw (replica_at s.replicas n node is)
      (ap (λ ns. (record (seen (replica_goes s n input (Some node))).0 { replicas = ns }, (seen (replica_goes s n input (Some node))).1)) (set_replica s.replicas n turned.0))

  pub node_seen : (node : Node) (input : Input) → seen (node_goes app s node input) ≡ shown_step (node_takes app w node input)
  node_seen (Node.Switch n) input = switch_case n input (slice_get s.switches n) refl
  node_seen (Node.Replica n) input = replica_case n input (slice_get s.replicas n) refl
  node_seen Node.Master input = refl

  stops_seen : (node : Node) → seen (goes app s (Stops node)) ≡ shown_step (perform_act app w (Stops node))
  stops_seen (Node.Switch n) = ap (λ ns. (record w { switches = ns }, [])) (changed_switch s.router.believed s.switches n switch_stops (λ (x : SwitchNode). record x { runs = false }) (λ b x. refl))
  stops_seen (Node.Replica n) = ap (λ ns. (record w { replicas = ns }, [])) (changed_replica s.replicas n replica_stops (λ (x : ReplicaNode). record x { runs = false }) (λ x. refl))
  stops_seen Node.Master = refl

  advances_seen : (by : List ℕ) → seen (goes app s (Advances by)) ≡ shown_step (perform_act app w (Advances by))
  advances_seen by =
      let long : length (switch_nodes s.router.believed s.switches) ≡ length s.switches = length_switches s.router.believed s.switches same in
      let first : switch_nodes s.router.believed (switches_later s.switches (take (length s.switches) by)) ≡ advanced_switches w.switches by =
      later_switches s.router.believed s.switches (take (length s.switches) by) ∙ few_advances s.router.believed s.switches by
      in
      let rest : replica_nodes (replicas_later s.replicas (drop (length s.switches) by)) ≡ advanced_replicas w.replicas (drop (length s.switches) by) = later_replicas s.replicas (drop (length s.switches) by) in
      rw long (λ i. (record w { switches = first i; replicas = rest i }, []))

  -- a switch that begins again
  abbrev begins : SwitchNode → SwitchNode
  begins x = record x { runs = true; state = open_switch x.state.me (x.state.inc + 1) w.terms w.config }

  boots_case : (n : ℕ) (o : Option SwitchSeat) → slice_get s.switches n ≡ o → seen (boots_at s n o, []) ≡ shown_step (perform_act app w (Boots n))
  boots_case n None is =
      let none : s.switches ≡ changed_at s.switches n (begins_again s) = none_changes s.switches n (begins_again s) is in
      ap (λ ns. (record w { switches = ns }, [])) (ap (switch_nodes s.router.believed) none ∙ changed_switch s.router.believed s.switches n (begins_again s) begins (λ b x. refl))
  boots_case n (Some node) is =
      let put : set s.switches n (begins_again s node) ≡ changed_at s.switches n (begins_again s) = set_changes s.switches n node (begins_again s) is in
      ap (λ ns. (record w { switches = ns }, [])) (ap (switch_nodes s.router.believed) put ∙ changed_switch s.router.believed s.switches n (begins_again s) begins (λ b x. refl))

  believed_same : (node : Node) → is_up s.router node ≡ believed_up w node
  believed_same (Node.Switch n) = believed_there s.router.believed s.switches n same
  believed_same (Node.Replica n) = refl
  believed_same Node.Master = refl

  -- a detection that isn't refused changes the routes
  detection_is : (node : Node) → Fits w (Detects node) → detects s node ≡ record s { router = seen_routes s.router node (runs_now w node) }
  detection_is node fits = rw (believed_same node, fits.0, fits.1) refl

  detects_case : (n : ℕ) (b : Bool) → runs_now w (Node.Replica n) ≡ b → Fits w (Detects (Node.Replica n)) → ((a : ℕ) → Running w a → In w.config.chain a) →
      world_of (record s { router = seen_routes s.router (Node.Replica n) b }) ≡ detected w (Node.Replica n)
  detects_case n false is fits present = refl
  detects_case n true is fits present = absurd (both_ways (runs_now w (Node.Replica n) && believed_up w (Node.Replica n)) fits.0 (and_from _ _ is (there (slice_get w.replicas n) refl is)))
    where
      there : (o : Option ReplicaNode) → slice_get w.replicas n ≡ o → runs_at_replica o ≡ true → believed_up w (Node.Replica n) ≡ true
      there None at up = absurd (both_ways false refl up)
      there (Some node) at up = in_any w.config.chain n (present n (node, (at, up)))

  pub detects_seen : (node : Node) → Fits w (Detects node) → ((a : ℕ) → Running w a → In w.config.chain a) → seen (goes app s (Detects node)) ≡ shown_step (perform_act app w (Detects node))
  detects_seen (Node.Switch n) fits present =
      ap (λ (x : WorldState). (world_of x, [])) (detection_is (Node.Switch n) fits)
      ∙ ap (λ ns. (record w { switches = ns }, [])) (detected_switches s.router.believed s.switches n same)
  detects_seen (Node.Replica n) fits present =
      ap (λ (x : WorldState). (world_of x, [])) (detection_is (Node.Replica n) fits) ∙ ap (λ (x : World). (x, [])) (detects_case n (runs_now w (Node.Replica n)) refl fits present)
  detects_seen Node.Master fits present = refl

-- an act that the definitions' world can do, in which each running replica is in the configuration
pub goes_seen : (app : Application) (s : WorldState) → length s.router.believed ≡ length s.switches → (act : Act) → Fits (world_of s) act → ((a : ℕ) → Running (world_of s) a → In (world_of s).config.chain a) →
    seen (goes app s act) ≡ shown_step (perform_act app (world_of s) act)
goes_seen app s same (Refuses cause) fits present = refl
goes_seen app s same (Feeds n p) fits present = node_seen app (fed s p) same (Node.Switch n) (Input.Packet p)
goes_seen app s same (Delivers i m) fits present = node_seen app (passes s i) same m.to (Input.Msg m)
goes_seen app s same (Passes i) fits present = refl
goes_seen app s same (Advances by) fits present = advances_seen app s same by
goes_seen app s same (Alarms node) fits present = node_seen app s same node Input.Alarm
goes_seen app s same (Stops node) fits present = stops_seen app s same node
goes_seen app s same (Boots n) fits present = boots_case app s same n (slice_get s.switches n) refl
goes_seen app s same (Detects node) fits present = detects_seen app s same node fits present
goes_seen app s same Announces fits present = refl
goes_seen app s same Pumps fits present = refl
