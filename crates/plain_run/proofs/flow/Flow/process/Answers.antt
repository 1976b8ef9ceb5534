use Rattle.std.proofs.Common.{◌∙◌, ap, length}
use Rattle.rp_app.proofs.Deltas.{length-written}
use Rattle.plain_run.specs.Plain.{PlainFlow}
use Rattle.plain_run.proofs.flow.Flow.process.Goals as goal

pub returns-in_err-push-clause-cells : goal.returns-in_err-push-clause-cells
returns-in_err-push-clause-cells g c = ap length c.write.ensures ∙ length-written c.self.inside.cells c.step.new.delta ∙ ap (λ (f : PlainFlow). length f.cells) c.self.view_is

pub returns-clause-cells : goal.returns-clause-cells
returns-clause-cells g c = ap length c.write.ensures ∙ length-written c.self.inside.cells c.step.new.delta ∙ ap (λ (f : PlainFlow). length f.cells) c.self.view_is
