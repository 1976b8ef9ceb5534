use Rattle.std.proofs.Common.{◌≡◌, ◌++◌, take}
use Rattle.app_meaning.specs.Slots.{below}
use Rattle.tree_scope.proofs.types.push_below.Given as goal

abbrev pub invariant-loop-s : goal.invariant-loop-s
invariant-loop-s l = l.into ≡ l.fn.into ++ below l.name (take l.s-index l.slots)
