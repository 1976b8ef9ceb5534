use Rattle.std.proofs.Common.{◌≡◌, take}
use Rattle.world_state.specs.Nodes.{replicas_later}
use Rattle.world_state.proofs.nodes.Replicas.advance.Given as goal

abbrev pub invariant-loop-i : goal.invariant-loop-i
invariant-loop-i l = l.self-inside.items.items ≡ replicas_later l.fn.self (take l.i l.by)
