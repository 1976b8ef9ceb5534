use Rattle.std.proofs.Common.{◌≡◌, map}
use Rattle.proto_model.specs.World.{below}
use Rattle.world_state.specs.Nodes.{begun_switch}
use Rattle.world_state.proofs.opening.open_switches.Given as goal

abbrev pub invariant-loop-n : goal.invariant-loop-n
invariant-loop-n l = l.switches ≡ map (λ n. begun_switch 0 n 1 l.fn.cells l.fn.terms l.fn.config) (below l.n)
