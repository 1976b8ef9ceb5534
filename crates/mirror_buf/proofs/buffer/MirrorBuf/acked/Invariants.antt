use Rattle.std.proofs.Common.{◌≡◌, not, length, filter}
use Rattle.link_arena.specs.Lists.{or_else}
use Rattle.mirror_buf.specs.Copies.{is_covered, first_of_greatest}
use Rattle.mirror_buf.proofs.buffer.MirrorBuf.acked.Given as goal

abbrev pub invariant-loop-moment : goal.invariant-loop-moment
invariant-loop-moment l = record {
  slots : l.self.slots ≡ l.fn.self.slots;
  rest : filter (λ c. not (is_covered l.slot l.upto c)) l.self.copies ≡ filter (λ c. not (is_covered l.slot l.upto c)) l.fn.self.copies;
  best : first_of_greatest (filter (is_covered l.slot l.upto) l.fn.self.copies) ≡ or_else (first_of_greatest (filter (is_covered l.slot l.upto) l.self.copies)) l.first;
}

abbrev pub decreases-loop-moment : goal.decreases-loop-moment
decreases-loop-moment l = length l.self.copies
