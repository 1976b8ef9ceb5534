use Rattle.std.proofs.Common.{◌≡◌, ◌≤◌, ◌*◌, ◌∙◌, ◌++◌, ◌∷◌, [], ℕ, sym, subst, arith}
use Rattle.std.specs.List.{AllByRecursion}
use Rattle.std.proofs.lemmas.List.FromFn.{map-range_with_len_more}
use Rattle.proto_safety.proofs.Basics.Eachs.{each_append}
use Rattle.world_state.specs.declared.nodes.ReplicaNode.{ReplicaNode as ReplicaSeat}
use Rattle.world_state.specs.Nodes.{begun_replica, IsReplicaSeat}
use Rattle.world_state.proofs.opening.open_replicas.Goals as goal

pub loop-n-preserved : goal.loop-n-preserved
loop-n-preserved c =
    let n = c.loop-n.n in
    let begun = c.in_ok-begun.ensures.begun in
    let First : ReplicaSeat → Type 0 = λ r. (r.state.turns ≤ 0) × (r.clock ≤ 1000000000 * 0) in
    let first : First c.in_ok-begun.field-0 = subst First (sym begun) (omega arith, omega arith) in
    let seat : IsReplicaSeat 0 c.in_ok-begun.field-0 = record { turns = first.0; clock = first.1; stands = c.in_ok-begun.ensures.stands } in
    record {
      made = c.in_ok-push.ensures
          ∙ (λ i. c.loop-n.invariant.made i ++ begun i ∷ [])
          ∙ sym (map-range_with_len_more (λ (k : ℕ). begun_replica k c.args.cells c.args.terms.now c.args.config.now) 0 n n (omega arith));
      stand = subst (AllByRecursion (IsReplicaSeat 0)) (sym c.in_ok-push.ensures) (each_append (IsReplicaSeat 0) c.loop-n.replicas (c.in_ok-begun.field-0 ∷ []) c.loop-n.invariant.stand (seat, tt));
    }
