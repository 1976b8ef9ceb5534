use Rattle.std.proofs.Common.{arith}
use Rattle.rp_frame.proofs.Codecs.{all_bytes_from}
use Rattle.rp_frame.proofs.ranges.bytes_in.Goals as goal

pub returns : goal.returns
returns c = all_bytes_from c.args.bytes.now (λ i. omega (arith, c.type_inv.bytes i))
