use Rattle.p4_print.specs.Tables.{act_tokens}
use Rattle.p4_print.proofs.Steps.{grown, texts}
use Rattle.p4_print.proofs.table.write_names.Goals as goal

pub loop-name-preserved : goal.loop-name-preserved
loop-name-preserved c =
    grown act_tokens c.args.names.now c.loop-name.name-index c.name-item.result _ _ _ c.loop-name-test.true c.name-item.is c.loop-name.invariant
    (rw (c.in_ok-append.ensures.ok, c.in_ok-write.ensures) (simp texts))
