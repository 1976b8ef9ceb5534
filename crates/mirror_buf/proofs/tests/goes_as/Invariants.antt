use Rattle.std.proofs.Common.{◌≡◌}
use Rattle.mirror_buf.proofs.tests.goes_as.Given as goal

abbrev pub invariant-loop-p : goal.invariant-loop-p
invariant-loop-p l = l.buffer.slots ≡ 16
