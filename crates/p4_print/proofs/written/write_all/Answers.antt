use Rattle.p4_print.proofs.Steps.{grown}
use Rattle.p4_print.proofs.written.write_all.Goals as goal

pub loop-part-preserved : goal.loop-part-preserved
loop-part-preserved g c = grown g.T.Written.tokens c.args.parts.now c.loop-part.part-index c.part-item.result _ _ _ c.loop-part-test.true c.part-item.is c.loop-part.invariant c.in_ok-write.ensures
