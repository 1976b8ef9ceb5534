-- The world before its first event, as it is kept.
use Rattle.std.proofs.Common.{◌≡◌, ℕ, zero, suc, ◌+◌, ◌≤◌, List, [], ◌∷◌, length, map, refl, ap, sym, ◌∙◌, Bool, true, replicate, arith, subst}
use Rattle.std.specs.List.{AllByRecursion, range_with_len}
use Rattle.std.proofs.lemmas.List.{length-replicate}
use Rattle.std.proofs.lemmas.List.FromFn.{length-range_with_len}
use Rattle.rp_app.specs.Application.{Application}
use Rattle.proto_data.specs.declared.message.Config.{Config}
use Rattle.proto_data.specs.declared.terms.Mode.{Mode}
use Rattle.proto_data.specs.declared.terms.Terms.{Terms}
use Rattle.proto_model.specs.World.{World, Setup, opened, below, open_switch_node, open_replica_node, first_config}
use Rattle.proto_safety.specs.Sizes.{SizedAt}
use Rattle.proto_safety.proofs.Basics.Lists.{length_map}
use Rattle.proto_safety.proofs.Size.WorldSizes.{opened_sized}
use Rattle.world_state.specs.declared.nodes.SwitchNode.{SwitchNode as SwitchSeat}
use Rattle.world_state.specs.declared.nodes.ReplicaNode.{ReplicaNode as ReplicaSeat}
use Rattle.world_state.specs.declared.state.WorldState.{WorldState}
use Rattle.world_state.specs.Nodes.{switch_nodes, replica_nodes, begun_switch, begun_replica, IsSwitchSeat, IsReplicaSeat}
use Rattle.world_state.specs.Waiting.{AreCursors}
use Rattle.world_state.specs.WorldStates.{world_of, IsRun}
use Rattle.world_state.proofs.WaitingKept.{first_cursors}

module _ (cells : ℕ) (setup : Setup) where
  abbrev pub first_switch : ℕ → SwitchSeat
  first_switch n = begun_switch 0 n 1 cells setup.terms (first_config setup.replicas)

  abbrev pub first_replica : ℕ → ReplicaSeat
  first_replica n = begun_replica n cells setup.terms (first_config setup.replicas)

  switches_from : (a k : ℕ) → switch_nodes (replicate k true) (map first_switch (range_with_len a k)) ≡ map (open_switch_node setup) (range_with_len a k)
  switches_from a zero = refl
  switches_from a (suc k) = ap (λ ns. open_switch_node setup a ∷ ns) (switches_from (a + 1) k)

  replicas_from : (a k : ℕ) → replica_nodes (map first_replica (range_with_len a k)) ≡ map (open_replica_node cells setup) (range_with_len a k)
  replicas_from a zero = refl
  replicas_from a (suc k) = ap (λ ns. open_replica_node cells setup a ∷ ns) (replicas_from (a + 1) k)

  seats_from : (a k : ℕ) → AllByRecursion (IsSwitchSeat cells 0) (map first_switch (range_with_len a k))
  seats_from a zero = tt
  seats_from a (suc k) = (record { cells_are = refl; turns = omega arith; later = omega arith; clock = omega arith }, seats_from (a + 1) k)

  -- the world of these switches and replicas
  pub opened_as_kept : switch_nodes (replicate setup.switches true) (map first_switch (below setup.switches)) ≡ (opened cells setup).switches
  opened_as_kept = switches_from 0 setup.switches

  pub opened_as_kept_too : replica_nodes (map first_replica (below setup.replicas)) ≡ (opened cells setup).replicas
  opened_as_kept_too = replicas_from 0 setup.replicas

  pub opened_runs : (s : WorldState) → setup.switches ≤ 8 → 1 ≤ setup.replicas → setup.replicas ≤ 5 → cells ≤ 256 → (setup.terms.mode ≡ Mode.Strict → cells ≤ 32) → setup.terms.t_switch ≤ 1000000 → setup.terms.ratio ≤ 1000 →
      world_of s ≡ opened cells setup → s.calls ≡ 0 → s.cells ≡ cells → s.router.believed ≡ replicate setup.switches true → s.cursors ≡ replicate 13 0 → s.switches ≡ map first_switch (below setup.switches) → AllByRecursion (IsReplicaSeat 0) s.replicas →
      (app : Application) → app.cell_count ≡ cells → IsRun app s
  opened_runs s switches_fit some_replica replicas_fit few few_strict term ratio is calls_are cells_are routes cursors_are switches_are replicas app count =
      let terms_are : s.terms ≡ setup.terms = ap (λ (w : World). w.terms) is in
      let long : length s.router.believed ≡ setup.switches = ap length routes ∙ length-replicate setup.switches true in
      let many : length s.switches ≡ setup.switches = ap length switches_are ∙ length_map first_switch (below setup.switches) ∙ length-range_with_len 0 setup.switches in
      let seats : AllByRecursion (IsSwitchSeat cells 0) s.switches = subst (AllByRecursion (IsSwitchSeat cells 0)) (sym switches_are) (seats_from 0 setup.switches) in
      let sized : SizedAt 1 app (opened app.cell_count setup) = opened_sized app setup switches_fit some_replica replicas_fit in
      record {
        cells = cells_are ∙ sym count;
        few = omega (arith, few, count);
        few_strict = λ strict. omega (arith, count, few_strict (sym (ap (λ (t : Terms). t.mode) terms_are) ∙ strict));
        term = subst (λ (t : Terms). t.t_switch ≤ 1000000) (sym terms_are) term;
        ratio = subst (λ (t : Terms). t.ratio ≤ 1000) (sym terms_are) ratio;
        routed = long ∙ sym many;
        switches = subst (λ n. AllByRecursion (IsSwitchSeat s.cells n) s.switches) (sym calls_are) (subst (λ n. AllByRecursion (IsSwitchSeat n 0) s.switches) (sym cells_are) seats);
        replicas = subst (λ n. AllByRecursion (IsReplicaSeat n) s.replicas) (sym calls_are) replicas;
        sized = subst (λ n. SizedAt (n + 1) app (world_of s)) (sym calls_are) (subst (SizedAt 1 app) (ap (λ n. opened n setup) count ∙ sym is) sized);
        waiting = subst (AreCursors s.frames s.passed) (sym cursors_are) (first_cursors s.frames s.passed);
      }
