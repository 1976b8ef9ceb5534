use Rattle.std.proofs.Common.{◌≡◌, ℕ, ◌+◌, ◌-◌, length}
use Rattle.world_state.specs.Passing.{flagged}
use Rattle.world_state.proofs.passing.grow.Given as goal

abbrev pub invariant-loop-flags : goal.invariant-loop-flags
invariant-loop-flags l = (i : ℕ) → flagged l.flags.items i ≡ flagged l.fn.flags.items i

abbrev pub decreases-loop-flags : goal.decreases-loop-flags
decreases-loop-flags l = l.number + 1 - length l.flags.items
