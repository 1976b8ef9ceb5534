use Rattle.std.proofs.Common.{◌≡◌, take}
use Rattle.p4_copy.proofs.parser.steps_copy.Given as goal

abbrev pub invariant-loop-x : goal.invariant-loop-x
invariant-loop-x l = l.copies ≡ take l.x-index l.xs
