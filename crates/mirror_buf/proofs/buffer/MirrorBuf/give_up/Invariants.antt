use Rattle.std.proofs.Common.{◌≡◌, not, length, filter}
use Rattle.mirror_buf.specs.Copies.{is_of}
use Rattle.mirror_buf.proofs.buffer.MirrorBuf.give_up.Given as goal

abbrev pub invariant-loop-moment : goal.invariant-loop-moment
invariant-loop-moment l = record {
  slots : l.self.slots ≡ l.fn.self.slots;
  rest : filter (λ c. not (is_of l.slot c)) l.self.copies ≡ filter (λ c. not (is_of l.slot c)) l.fn.self.copies;
}

abbrev pub decreases-loop-moment : goal.decreases-loop-moment
decreases-loop-moment l = length l.self.copies
