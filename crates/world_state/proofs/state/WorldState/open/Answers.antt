use Rattle.std.proofs.Common.{◌≡◌, ◌∙◌, ap, map, refl}
use Rattle.proto_model.specs.World.{Setup, below, first_config, opened}
use Rattle.reroute.specs.Routes.{Routes}
use Rattle.world_state.specs.Nodes.{begun_switch, begun_replica, switch_nodes, replica_nodes}
use Rattle.world_state.proofs.Opened.{first_switch, first_replica, opened_as_kept, opened_as_kept_too, opened_runs}
use Rattle.world_state.proofs.state.WorldState.open.Goals as goal

pub returns-clause-made : goal.returns-clause-made
returns-clause-made c =
    let setup : Setup = record { switches = c.args.switches; replicas = c.args.replicas; terms = c.args.terms.now; linked = c.args.linked } in
    let one : c.config.result.now ≡ first_config c.args.replicas = c.config.ensures ∙ ap (λ (r : Routes). r.config) c.open-router.ensures in
    let two : c.config-2.result.now ≡ first_config c.args.replicas = c.config-2.ensures ∙ ap (λ (r : Routes). r.config) c.open-router.ensures in
    let first : c.in_ok-first.first ≡ map (first_switch c.args.cells setup) (below c.args.switches) =
    c.in_ok-first.ensures ∙ (λ i. map (λ n. begun_switch 0 n 1 c.args.cells c.args.terms.now (one i)) (below c.args.switches))
    in
    let store : c.in_ok-store.store ≡ map (first_replica c.args.cells setup) (below c.args.replicas) =
    c.in_ok-store.ensures.made ∙ (λ i. map (λ n. begun_replica n c.args.cells c.args.terms.now (two i)) (below c.args.replicas))
    in
    let switches : switch_nodes c.open-router.result.believed c.in_ok-first.first ≡ (opened c.args.cells setup).switches =
    (λ i. switch_nodes (c.open-router.ensures i).believed (first i)) ∙ opened_as_kept c.args.cells setup
    in
    let replicas : replica_nodes c.in_ok-store.store ≡ (opened c.args.cells setup).replicas = ap replica_nodes store ∙ opened_as_kept_too c.args.cells setup in
    λ i. record {
      terms = c.args.terms.now;
      linked = c.args.linked;
      switches = switches i;
      replicas = replicas i;
      config = (c.open-router.ensures i).config;
      frames = c.new.ensures i;
      passed = c.new-2.ensures i;
      event = 0;
      history = c.new-3.ensures i;
    }

pub returns-clause-run : goal.returns-clause-run
returns-clause-run c app count =
    let setup : Setup = record { switches = c.args.switches; replicas = c.args.replicas; terms = c.args.terms.now; linked = c.args.linked } in
    let one : c.config.result.now ≡ first_config c.args.replicas = c.config.ensures ∙ ap (λ (r : Routes). r.config) c.open-router.ensures in
    let first : c.in_ok-first.first ≡ map (first_switch c.args.cells setup) (below c.args.switches) =
    c.in_ok-first.ensures ∙ (λ i. map (λ n. begun_switch 0 n 1 c.args.cells c.args.terms.now (one i)) (below c.args.switches))
    in
    opened_runs c.args.cells setup _ c.requires.switches_fit c.requires.some_replica c.requires.replicas_fit c.requires.cells c.requires.few c.requires.term c.requires.ratio
    (returns-clause-made c) refl refl (ap (λ (r : Routes). r.believed) c.open-router.ensures) c.new-4.ensures first c.in_ok-store.ensures.stand app count
