use Rattle.std.proofs.Common.{◌^◌, arith}
use Rattle.rp_frame.proofs.Codecs.{all_below}
use Rattle.rp_frame.proofs.ranges.values_in.Goals as goal

pub returns : goal.returns
returns c = all_below (2 ^ 64) c.args.values.now (λ i. omega (arith, c.type_inv.values i))
