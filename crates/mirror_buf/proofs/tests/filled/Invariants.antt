use Rattle.std.proofs.Common.{◌≡◌, ◌+◌, ◌*◌, ◌<◌}
use Rattle.std.specs.Prelude.{All}
use Rattle.mirror_buf.proofs.tests.filled.Given as goal

abbrev pub invariant-loop-i : goal.invariant-loop-i
invariant-loop-i l = record {
  slots : l.buffer.slots ≡ 16;
  made : All (λ c. (c.1.number * 16 + c.1.slot < l.i) × (c.1.sent < l.i)) l.buffer.copies;
}
