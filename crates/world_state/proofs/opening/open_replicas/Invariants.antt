use Rattle.std.proofs.Common.{◌≡◌, map}
use Rattle.std.specs.List.{AllByRecursion}
use Rattle.proto_model.specs.World.{below}
use Rattle.world_state.specs.Nodes.{begun_replica, IsReplicaSeat}
use Rattle.world_state.proofs.opening.open_replicas.Given as goal

abbrev pub invariant-loop-n : goal.invariant-loop-n
invariant-loop-n l = record {
  made : l.replicas ≡ map (λ n. begun_replica n l.fn.cells l.fn.terms l.fn.config) (below l.n);
  stand : AllByRecursion (IsReplicaSeat 0) l.replicas;
}
