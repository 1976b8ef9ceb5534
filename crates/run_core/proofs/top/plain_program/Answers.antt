use Rattle.std.proofs.Common.{IfSome, subst}
use Rattle.p4_check.specs.Checking.{CheckedProgram}
use Rattle.app_meaning.specs.Programs.{application}
use Rattle.run_core.specs.Answers.{Answers}
use Rattle.run_core.specs.Outcomes.{plain_of}
use Rattle.run_core.proofs.Endings.{plain_told}
use Rattle.run_core.proofs.top.plain_program.Goals as goal

pub returns-in-Ok-clause-told : goal.returns-in-Ok-clause-told
returns-in-Ok-clause-told g c =
    plain_told (g.I.Inputs.contents c.args.inputs.now) (g.I.Inputs.contents c.program.new.inputs) c.args.name.now c.args.schedule.now (application c.in-Ok.checked.tree) c.plain_app.result
    (g.K.Sink.written c.args.out.now) (g.K.Sink.written c.plain_app.new.out) c.program.ensures.contents c.in-Ok.ensures.told
    (subst (λ (x : CheckedProgram). IfSome (g.I.Inputs.contents c.program.new.inputs) (λ contents.
    Answers c.plain_app.result (plain_of (application x.tree) (contents c.args.schedule.now)) (g.K.Sink.written c.args.out.now) (g.K.Sink.written c.plain_app.new.out)))
    c.new-app.ensures c.plain_app.ensures.told)
