use Rattle.std.proofs.Common.{◌≡◌, ◌∙◌, ◌+◌, ◌-◌, ◌*◌, ◌/◌, ◌%◌, ◌^◌, ◌<◌, ◌++◌, ℕ, List, [], ◌∷◌, length, ap, arith, add-one}
use Rattle.std.proofs.lemmas.List.{length-append}
use Rattle.rp_bits.specs.Bits.{digits, bits_of}
use Rattle.rp_bits.proofs.Bits.{push_bit, push_byte, grows}
use Rattle.rp_bits.proofs.writer.joined.Goals as goal

pub loop-left-preserved-then-used-eq8 : goal.loop-left-preserved-then-used-eq8
loop-left-preserved-then-used-eq8 c =
    let inv = c.loop-left.invariant in
    let more = push_byte c.loop-left.whole.items c.loop-left.used (c.loop-left.part * 2 + c.args.v / 2 ^ (c.loop-left.left - 1) % 2) c.if-used-eq8.true in
    let more_long : length c.push.new.self.items ≡ length c.loop-left.whole.items + 1 =
    ap (λ (xs : List ℕ). length xs) c.push.ensures.items ∙ length-append c.loop-left.whole.items ((c.loop-left.part * 2 + c.args.v / 2 ^ (c.loop-left.left - 1) % 2) ∷ []) in
    record {
      less = omega (arith, inv.less);
      size = omega (arith, inv.size, c.loop-left-test.true, c.if-used-eq8.true, more_long);
      part = record { few = omega arith; below = omega arith };
      bits =
          ap (λ (xs : List ℕ). (bits_of xs ++ []) ++ digits (c.loop-left.left - 1) c.args.v) c.push.ensures.items
          ∙ ap (λ (xs : List ℕ). xs ++ digits (c.loop-left.left - 1) c.args.v) more
          ∙ push_bit _ c.loop-left.used c.loop-left.part c.loop-left.left c.args.v (omega (arith, c.loop-left-test.true)) ∙ inv.bits;
    }

pub loop-left-preserved : goal.loop-left-preserved
loop-left-preserved c =
    let inv = c.loop-left.invariant in
    let bit : c.args.v / 2 ^ (c.loop-left.left - 1) % 2 < 2 = omega arith in
    record {
      less = omega (arith, inv.less);
      size = omega (arith, inv.size, c.loop-left-test.true);
      part = record { few = omega (arith, inv.part.few, c.if-used-eq8.false); below = rw (add-one) (grows c.loop-left.part c.loop-left.used _ inv.part.below bit) };
      bits = push_bit _ c.loop-left.used c.loop-left.part c.loop-left.left c.args.v (omega (arith, c.loop-left-test.true)) ∙ inv.bits;
    }
