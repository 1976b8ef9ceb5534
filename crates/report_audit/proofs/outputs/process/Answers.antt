use Rattle.std.proofs.Common.{◌∙◌, ap, length}
use Rattle.rp_app.proofs.Deltas.{length-written}
use Rattle.report_audit.proofs.Folds.{writes_within}
use Rattle.report_audit.proofs.outputs.process.Goals as goal

pub write-requires : goal.write-requires
write-requires g c =
    writes_within (g.A.App.meaning c.args.app.now) (g.met.A.App.promised c.args.app.now) c.args.cells.now c.in-Some.fed.now.packet c.step.new.delta c.in_ok-out.out
    c.requires.many c.in_ok-out.ensures.ok

pub returns-clause-many : goal.returns-clause-many
returns-clause-many g c = ap length c.write.ensures ∙ length-written c.args.cells.now c.step.new.delta
