use Rattle.std.proofs.Common.{◌≡◌, ◌∙◌, suc, ◌-◌, arith}
use Rattle.rp_bits.proofs.Bits.{grows, fits_so_far, one_more, length-bits}
use Rattle.rp_bits.proofs.reader.number_at.Goals as goal

pub overflow_mul-n : goal.overflow_mul-n
overflow_mul-n c = omega (arith, fits_so_far c.loop-left.n _ 0 c.loop-left.invariant.below (omega arith) (omega (arith, c.loop-left.invariant.less, c.loop-left-test.true, c.requires.fits)))

pub overflow_add-n : goal.overflow_add-n
overflow_add-n c = omega (arith, fits_so_far c.loop-left.n _ c.bit_at.result c.loop-left.invariant.below c.bit_at.ensures.bit (omega (arith, c.loop-left.invariant.less, c.loop-left-test.true, c.requires.fits)))

pub loop-left-preserved : goal.loop-left-preserved
loop-left-preserved c = record {
  less = omega (arith, c.loop-left.invariant.less);
  place = omega (arith, c.loop-left.invariant.place, c.loop-left-test.true);
  value = rw (c.bit_at.ensures.value) (one_more _ c.loop-left.n c.loop-left.at c.loop-left.left (omega (arith, length-bits c.args.bytes.now, c.loop-left.invariant.place, c.loop-left-test.true, c.requires.there)) (omega (arith, c.loop-left-test.true)) ∙ c.loop-left.invariant.value);
  below =
      let up : c.args.w - (c.loop-left.left - 1) ≡ suc (c.args.w - c.loop-left.left) = omega (arith, c.loop-left.invariant.less, c.loop-left-test.true) in
      rw (up) (grows c.loop-left.n (c.args.w - c.loop-left.left) c.bit_at.result c.loop-left.invariant.below c.bit_at.ensures.bit);
}
