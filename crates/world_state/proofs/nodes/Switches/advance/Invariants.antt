use Rattle.std.proofs.Common.{◌≡◌, take}
use Rattle.world_state.specs.Nodes.{switches_later}
use Rattle.world_state.proofs.nodes.Switches.advance.Given as goal

abbrev pub invariant-loop-i : goal.invariant-loop-i
invariant-loop-i l = l.self-inside.items.items ≡ switches_later l.fn.self (take l.i l.by)
