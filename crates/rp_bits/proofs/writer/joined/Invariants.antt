use Rattle.std.proofs.Common.{◌≡◌, ◌≤◌, ◌*◌, ◌+◌, ◌++◌, length}
use Rattle.rp_bits.specs.Bits.{bits_of, digits}
use Rattle.rp_bits.specs.Fields.{IsPart}
use Rattle.rp_bits.proofs.writer.joined.Given as goal

abbrev pub invariant-loop-left : goal.invariant-loop-left
invariant-loop-left l = record {
  less : l.left ≤ l.fn.w;
  size : 8 * length l.whole.items + l.used + l.left ≡ l.fn.used + l.fn.w;
  part : IsPart l.used l.part;
  bits : (bits_of l.whole.items ++ digits l.used l.part) ++ digits l.left l.fn.v ≡ digits l.fn.used l.fn.part ++ digits l.fn.w l.fn.v;
}

abbrev pub decreases-loop-left : goal.decreases-loop-left
decreases-loop-left l = l.left
