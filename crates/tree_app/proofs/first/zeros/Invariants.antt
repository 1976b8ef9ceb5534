use Rattle.std.proofs.Common.{◌≡◌, map, take}
use Rattle.app_meaning.specs.Values.{cut}
use Rattle.tree_app.proofs.first.zeros.Given as goal

abbrev pub invariant-loop-s : goal.invariant-loop-s
invariant-loop-s l = l.values ≡ map (λ s. cut s.width 0) (take l.s-index l.slots)
