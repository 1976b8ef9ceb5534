use Rattle.std.proofs.Common.{IfSome, subst}
use Rattle.p4_check.specs.Checking.{CheckedProgram}
use Rattle.app_meaning.specs.Programs.{application}
use Rattle.run_core.specs.Answers.{Answers}
use Rattle.run_core.specs.Outcomes.{plain_of}
use Rattle.run_core.proofs.top.plain_app.Goals as goal

pub returns-in-Ok-clause-told : goal.returns-in-Ok-clause-told
returns-in-Ok-clause-told g c =
    subst (λ (x : CheckedProgram). IfSome (g.I.Inputs.contents c.args.inputs.now) (λ contents.
    Answers c.plain.result (plain_of (application x.tree) (contents c.args.schedule.now)) (g.K.Sink.written c.args.out.now) (g.K.Sink.written c.plain.new.out)))
    c.in-Ok.ensures c.plain.ensures.told
