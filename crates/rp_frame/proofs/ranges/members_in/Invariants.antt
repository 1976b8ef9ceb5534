use Rattle.std.proofs.Common.{◌≡◌, true, take}
use Rattle.rp_frame.specs.Ranges.{delta_in}
use Rattle.rp_frame.proofs.ranges.members_in.Given as goal

abbrev pub invariant-loop-pair : goal.invariant-loop-pair
invariant-loop-pair l = delta_in (take l.pair-index l.pairs) ≡ true
