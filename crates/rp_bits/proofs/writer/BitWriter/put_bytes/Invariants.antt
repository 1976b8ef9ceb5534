use Rattle.std.proofs.Common.{◌≡◌, ◌++◌, drop}
use Rattle.rp_bits.specs.Bits.{bits_of}
use Rattle.rp_bits.proofs.writer.BitWriter.put_bytes.Given as goal

abbrev pub invariant-loop-b : goal.invariant-loop-b
invariant-loop-b l = l.self ++ bits_of (drop l.b-index l.bytes) ≡ l.fn.self ++ bits_of l.bytes
