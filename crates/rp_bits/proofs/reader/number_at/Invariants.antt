use Rattle.std.proofs.Common.{◌≡◌, ◌≤◌, ◌<◌, ◌*◌, ◌+◌, ◌^◌, take, drop, fold, ◌-◌}
use Rattle.rp_bits.specs.Bits.{bits_of, number_of}
use Rattle.rp_bits.proofs.reader.number_at.Given as goal

abbrev pub invariant-loop-left : goal.invariant-loop-left
invariant-loop-left l = record {
  less : l.left ≤ l.fn.w;
  place : l.at + l.left ≡ l.fn.at + l.fn.w;
  value : fold (λ n bit. n * 2 + bit) l.n (take l.left (drop l.at (bits_of l.fn.bytes))) ≡ number_of (take l.fn.w (drop l.fn.at (bits_of l.fn.bytes)));
  below : l.n < 2 ^ (l.fn.w - l.left);
}

abbrev pub decreases-loop-left : goal.decreases-loop-left
decreases-loop-left l = l.left
