use Rattle.std.proofs.Common.{IfSome, subst}
use Rattle.rp_app.specs.Application.{Application}
use Rattle.run_core.specs.Answers.{Answers}
use Rattle.run_core.specs.Outcomes.{run_of}
use Rattle.run_core.proofs.top.run_checked.Goals as goal

pub returns-in-Ok-clause-told : goal.returns-in-Ok-clause-told
returns-in-Ok-clause-told g c =
    subst (λ (app : Application). IfSome (g.I.Inputs.contents c.args.inputs.now) (λ contents.
    Answers c.run.result (run_of app c.args.frames (contents c.args.schedule.now)) (g.K.Sink.written c.args.out.now) (g.K.Sink.written c.run.new.out)))
    c.in-Ok.ensures.value c.run.ensures.told
