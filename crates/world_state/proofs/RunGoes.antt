-- What is kept to in a world holds after each act.
use Rattle.std.proofs.Common.{◌≡◌, ℕ, zero, suc, ◌+◌, ◌*◌, ◌≤◌, List, [], ◌∷◌, ◌++◌, length, Option, Some, None, refl, ap, sym, ◌∙◌, Bool, true, false, slice_get, set, take, drop, arith, subst, length-set, All, Result, Ok, Err}
use Rattle.std.specs.Prelude.{not, ◌&&◌, if◌then◌else◌}
use Rattle.std.specs.List.{AllByRecursion}
use Rattle.rp_base.specs.declared.node.Node.{Node}
use Rattle.rp_app.specs.Application.{Application}
use Rattle.proto_data.specs.declared.message.Input.{Input}
use Rattle.proto_data.specs.declared.terms.Terms.{Terms}
use Rattle.proto_model.specs.Feeds.{Each}
use Rattle.proto_model.specs.WorldStep.{Act, Refuses, Feeds, Delivers, Passes, Advances, Alarms, Stops, Boots, Detects, Announces, Pumps, announcements, changed_at, runs_now}
use Rattle.proto_model.proofs.StoreStands.{step_stands}
use Rattle.proto_safety.proofs.Basics.Eachs.{each_at, each_changed, each_drop, each_set, each_take, each_weaker}
use Rattle.proto_safety.proofs.Basics.Lists.{length_changed_at}
use Rattle.reroute.specs.declared.router.DetectEnd.{DetectEnd}
use Rattle.reroute.specs.declared.router.DetectEnd.TheVariants as end
use Rattle.reroute.specs.Routes.{Routes, detection, seen as seen_routes, is_up}
use Rattle.world_state.specs.declared.nodes.SwitchNode.{SwitchNode as SwitchSeat}
use Rattle.world_state.specs.declared.nodes.ReplicaNode.{ReplicaNode as ReplicaSeat}
use Rattle.world_state.specs.declared.state.WorldState.{WorldState}
use Rattle.world_state.specs.Nodes.{IsSwitchSeat, IsReplicaSeat, switch_stops, replica_stops, switches_later, replicas_later}
use Rattle.world_state.specs.Steps.{Step, switch_goes, replica_goes, node_goes, boots_at, begins_again, detects, fed, goes, later, passes, sends}
use Rattle.world_state.specs.Turns.{switch_turned, replica_turned}
use Rattle.world_state.specs.WorldStates.{world_of}

-- the terms, cells and calls of a world, and its nodes after k calls
pub record Holds (terms : Terms) (cells calls k : ℕ) (s : WorldState) : Type 0 where
  pub terms_are : s.terms ≡ terms
  pub cells_are : s.cells ≡ cells
  pub calls_are : s.calls ≡ calls
  pub routed : length s.router.believed ≡ length s.switches
  pub switches : Each (IsSwitchSeat cells k) s.switches
  pub replicas : Each (IsReplicaSeat k) s.replicas

-- each clock goes on by at most so much at one event
abbrev pub FewAdvances : Act → Type 0
FewAdvances (Advances by) = Each (λ d. d ≤ 1000000000) by
FewAdvances _ = Unit {0}

-- ---- one node

switch_later : (cells k d : ℕ) (s : SwitchSeat) → d ≤ 1000000000 → IsSwitchSeat cells k s → IsSwitchSeat cells (k + 1) (record s { clock = s.clock + d })
switch_later cells k d s less h = record { cells_are = h.cells_are; turns = omega (arith, h.turns); later = omega (arith, h.later); clock = omega (arith, h.clock, less) }

switch_up : (cells k : ℕ) (s : SwitchSeat) → IsSwitchSeat cells k s → IsSwitchSeat cells (k + 1) s
switch_up cells k s h = record { cells_are = h.cells_are; turns = omega (arith, h.turns); later = h.later; clock = omega (arith, h.clock) }

switch_takes : (app : Application) (cells k : ℕ) (s : SwitchSeat) (input : Input) → IsSwitchSeat cells k s → IsSwitchSeat cells (k + 1) (switch_turned app s input).0
switch_takes app cells k s input h = record { cells_are = h.cells_are; turns = omega (arith, h.turns); later = omega arith; clock = omega (arith, h.clock) }

replica_later : (k d : ℕ) (r : ReplicaSeat) → d ≤ 1000000000 → IsReplicaSeat k r → IsReplicaSeat (k + 1) (record r { clock = r.clock + d })
replica_later k d r less h = record { turns = omega (arith, h.turns); clock = omega (arith, h.clock, less); stands = h.stands }

replica_up : (k : ℕ) (r : ReplicaSeat) → IsReplicaSeat k r → IsReplicaSeat (k + 1) r
replica_up k r h = record { turns = omega (arith, h.turns); clock = omega (arith, h.clock); stands = h.stands }

replica_takes : (k : ℕ) (r : ReplicaSeat) (event : ℕ) (input : Input) → IsReplicaSeat k r → IsReplicaSeat (k + 1) (replica_turned r event input).0
replica_takes k r event input h =
    record { turns = omega (arith, h.turns); clock = omega (arith, h.clock); stands = (step_stands r.state.replica r.book r.clock event input h.stands) }

-- ---- all nodes

switches_go_on : (cells k : ℕ) (ss : List SwitchSeat) (by : List ℕ) → Each (λ d. d ≤ 1000000000) by → Each (IsSwitchSeat cells k) ss → Each (IsSwitchSeat cells (k + 1)) (switches_later ss by)
switches_go_on cells k [] by few h = tt
switches_go_on cells k (s ∷ ss) [] few h = (switch_up cells k s h.0, each_weaker _ _ ss (λ x p. switch_up cells k x p) h.1)
switches_go_on cells k (s ∷ ss) (d ∷ ds) few h = (switch_later cells k d s few.0 h.0, switches_go_on cells k ss ds few.1 h.1)

replicas_go_on : (k : ℕ) (rs : List ReplicaSeat) (by : List ℕ) → Each (λ d. d ≤ 1000000000) by → Each (IsReplicaSeat k) rs → Each (IsReplicaSeat (k + 1)) (replicas_later rs by)
replicas_go_on k [] by few h = tt
replicas_go_on k (r ∷ rs) [] few h = (replica_up k r h.0, each_weaker _ _ rs (λ x p. replica_up k x p) h.1)
replicas_go_on k (r ∷ rs) (d ∷ ds) few h = (replica_later k d r few.0 h.0, replicas_go_on k rs ds few.1 h.1)

length_later : (ss : List SwitchSeat) (by : List ℕ) → length (switches_later ss by) ≡ length ss
length_later [] by = refl
length_later (s ∷ ss) [] = refl
length_later (s ∷ ss) (d ∷ ds) = ap suc (length_later ss ds)

length_seen : (r : Routes) (node : Node) (b : Bool) → length (seen_routes r node b).believed ≡ length r.believed
length_seen r (Node.Switch n) b = length-set r.believed n b
length_seen r (Node.Replica n) true = refl
length_seen r (Node.Replica n) false = refl
length_seen r Node.Master b = refl

-- what a detection comes to, by its two tests
abbrev detected_by : Routes → Node → Bool → Bool → Bool → Routes × Result (Unit {0}) DetectEnd
detected_by r node runs a b = if a then (r, Err end.Alive) else if b then (r, Err end.Known) else (seen_routes r node runs, Ok tt)

length_detected : (r : Routes) (node : Node) (runs a b : Bool) → length (detected_by r node runs a b).0.believed ≡ length r.believed
length_detected r node runs true b = refl
length_detected r node runs false true = refl
length_detected r node runs false false = length_seen r node runs

length_detection : (r : Routes) (node : Node) (runs : Bool) → length (detection r node runs).0.believed ≡ length r.believed
length_detection r node runs = length_detected r node runs (runs && is_up r node) (not runs && not (is_up r node))

module _ (app : Application) (terms : Terms) (cells calls k : ℕ) where
  abbrev Old : WorldState → Type 0
  Old s = Holds terms cells calls k s

  abbrev New : WorldState → Type 0
  New s = Holds terms cells calls (k + 1) s

  up : (s : WorldState) → Old s → New s
  up s h =
      record {
        terms_are = h.terms_are;
        cells_are = h.cells_are;
        calls_are = h.calls_are;
        routed = h.routed;
        switches = each_weaker _ _ s.switches (λ x p. switch_up cells k x p) h.switches;
        replicas = each_weaker _ _ s.replicas (λ x p. replica_up k x p) h.replicas;
      }

  -- other switches, of this many
  with_switches : (s s2 : WorldState) → New s → s2.terms ≡ s.terms → s2.cells ≡ s.cells → s2.calls ≡ s.calls → s2.router ≡ s.router → s2.replicas ≡ s.replicas → length s2.switches ≡ length s.switches → Each (IsSwitchSeat cells (k + 1)) s2.switches → New s2
  with_switches s s2 h terms_same cells_same calls_same router_same replicas_same long ss =
      record {
        terms_are = terms_same ∙ h.terms_are;
        cells_are = cells_same ∙ h.cells_are;
        calls_are = calls_same ∙ h.calls_are;
        routed = ap (λ (r : Routes). length r.believed) router_same ∙ h.routed ∙ sym long;
        switches = ss;
        replicas = subst (Each (IsReplicaSeat (k + 1))) (sym replicas_same) h.replicas;
      }

  switch_case : (s : WorldState) → Old s → (n : ℕ) (input : Input) (o : Option SwitchSeat) → slice_get s.switches n ≡ o → New (switch_goes app s n input o).0
  switch_case s h n input None is = up s h
  switch_case s h n input (Some node) is =
      let s2 = (switch_goes app s n input (Some node)).0 in
      with_switches s s2 (up s h) refl refl refl refl refl (length-set s.switches n _)
      (each_set (IsSwitchSeat cells (k + 1)) s.switches n _ (up s h).switches (switch_takes app cells k node input (each_at (IsSwitchSeat cells k) s.switches n node h.switches is)))

  replica_case : (s : WorldState) → Old s → (n : ℕ) (input : Input) (o : Option ReplicaSeat) → slice_get s.replicas n ≡ o → New (replica_goes s n input o).0
  replica_case s h n input None is = up s h
  replica_case s h n input (Some node) is =
      record {
        terms_are = h.terms_are;
        cells_are = h.cells_are;
        calls_are = h.calls_are;
        routed = h.routed;
        switches = (up s h).switches;
        replicas = each_set (IsReplicaSeat (k + 1)) s.replicas n _ (up s h).replicas (replica_takes k node s.event input (each_at (IsReplicaSeat k) s.replicas n node h.replicas is));
      }

  node_holds : (s : WorldState) → Old s → (node : Node) (input : Input) → New (node_goes app s node input).0
  node_holds s h (Node.Switch n) input = switch_case s h n input (slice_get s.switches n) refl
  node_holds s h (Node.Replica n) input = replica_case s h n input (slice_get s.replicas n) refl
  node_holds s h Node.Master input = up s h

  stops_hold : (s : WorldState) → Old s → (node : Node) → New (goes app s (Stops node)).0
  stops_hold s h (Node.Switch n) =
      with_switches s (goes app s (Stops (Node.Switch n))).0 (up s h) refl refl refl refl refl (length_changed_at s.switches n switch_stops)
      (each_changed (IsSwitchSeat cells (k + 1)) s.switches n switch_stops (λ x p. record { cells_are = p.cells_are; turns = p.turns; later = p.later; clock = p.clock }) (up s h).switches)
  stops_hold s h (Node.Replica n) =
      record {
        terms_are = h.terms_are;
        cells_are = h.cells_are;
        calls_are = h.calls_are;
        routed = h.routed;
        switches = (up s h).switches;
        replicas = each_changed (IsReplicaSeat (k + 1)) s.replicas n replica_stops (λ x p. record { turns = p.turns; clock = p.clock; stands = p.stands }) (up s h).replicas;
      }
  stops_hold s h Node.Master = up s h

  boots_hold : (s : WorldState) → Old s → (n : ℕ) (o : Option SwitchSeat) → slice_get s.switches n ≡ o → New (boots_at s n o)
  boots_hold s h n None is = up s h
  boots_hold s h n (Some node) is =
      let old = each_at (IsSwitchSeat cells k) s.switches n node h.switches is in
      with_switches s (boots_at s n (Some node)) (up s h) refl refl refl refl refl (length-set s.switches n _)
      (each_set (IsSwitchSeat cells (k + 1)) s.switches n _ (up s h).switches (record { cells_are = h.cells_are; turns = omega arith; later = omega arith; clock = omega (arith, old.clock) }))

  advances_hold : (s : WorldState) → Old s → (by : List ℕ) → Each (λ d. d ≤ 1000000000) by → New (later s by)
  advances_hold s h by few =
      record {
        terms_are = h.terms_are;
        cells_are = h.cells_are;
        calls_are = h.calls_are;
        routed = h.routed ∙ sym (length_later s.switches (take (length s.switches) by));
        switches = switches_go_on cells k s.switches (take (length s.switches) by) (each_take _ (length s.switches) by few) h.switches;
        replicas = replicas_go_on k s.replicas (drop (length s.switches) by) (each_drop _ (length s.switches) by few) h.replicas;
      }

  detects_hold : (s : WorldState) → Old s → (node : Node) → New (detects s node)
  detects_hold s h node =
      record {
        terms_are = h.terms_are;
        cells_are = h.cells_are;
        calls_are = h.calls_are;
        routed = length_detection s.router node (runs_now (world_of s) node) ∙ h.routed;
        switches = (up s h).switches;
        replicas = (up s h).replicas;
      }

  -- the same nodes and routes
  still : (s s2 : WorldState) → Old s → s2.terms ≡ s.terms → s2.cells ≡ s.cells → s2.calls ≡ s.calls → s2.router ≡ s.router → s2.switches ≡ s.switches → s2.replicas ≡ s.replicas → Old s2
  still s s2 h t c l r ss rs =
      record {
        terms_are = t ∙ h.terms_are;
        cells_are = c ∙ h.cells_are;
        calls_are = l ∙ h.calls_are;
        routed = ap (λ (x : Routes). length x.believed) r ∙ h.routed ∙ sym (ap length ss);
        switches = subst (Each (IsSwitchSeat cells k)) (sym ss) h.switches;
        replicas = subst (Each (IsReplicaSeat k)) (sym rs) h.replicas;
      }

  pub goes_hold : (s : WorldState) → Old s → (act : Act) → FewAdvances act → New (goes app s act).0
  goes_hold s h (Refuses cause) few = up s h
  goes_hold s h (Feeds n p) few = node_holds (fed s p) (still s (fed s p) h refl refl refl refl refl refl) (Node.Switch n) (Input.Packet p)
  goes_hold s h (Delivers i m) few = node_holds (passes s i) (still s (passes s i) h refl refl refl refl refl refl) m.to (Input.Msg m)
  goes_hold s h (Passes i) few = up (passes s i) (still s (passes s i) h refl refl refl refl refl refl)
  goes_hold s h (Advances by) few = advances_hold s h by few
  goes_hold s h (Alarms node) few = node_holds s h node Input.Alarm
  goes_hold s h (Stops node) few = stops_hold s h node
  goes_hold s h (Boots n) few = boots_hold s h n (slice_get s.switches n) refl
  goes_hold s h (Detects node) few = detects_hold s h node
  goes_hold s h Announces few =
      let s2 = (sends s (announcements (world_of s))).0 in
      up s2 (still s s2 h refl refl refl refl refl refl)
  goes_hold s h Pumps few = up s h
