use Rattle.app_meaning.specs.Programs.{application}
use Rattle.run_core.proofs.Endings.{run_told}
use Rattle.run_core.proofs.top.run_program.Goals as goal

pub returns-in-Ok-clause-told : goal.returns-in-Ok-clause-told
returns-in-Ok-clause-told g c =
    run_told (g.I.Inputs.contents c.args.inputs.now) (g.I.Inputs.contents c.program.new.inputs) c.args.name.now c.args.schedule.now c.args.frames (application c.in-Ok.checked.tree) c.run_checked.result
    (g.K.Sink.written c.args.out.now) (g.K.Sink.written c.run_checked.new.out) c.program.ensures.contents c.in-Ok.ensures.told c.run_checked.ensures.told
