use Rattle.std.proofs.Common.{◌<◌, ◌∙◌, None, ap, arith, length, set}
use Rattle.snap_mode.proofs.Lists.{emptied_next}
use Rattle.snap_mode.proofs.gather.empty.Goals as goal

pub loop-i-preserved : goal.loop-i-preserved
loop-i-preserved c =
    let low : c.loop-i.i < length c.args.parts.now = omega (arith, c.loop-i-test.true) in
    ap (λ ps. set ps c.loop-i.i None) c.loop-i.invariant ∙ emptied_next c.args.parts.now c.loop-i.i None low
