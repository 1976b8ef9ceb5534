use Rattle.run_core.proofs.Loaded.{told_program}
use Rattle.run_core.proofs.loading.program.Goals as goal

pub returns-in-Ok-clause-told : goal.returns-in-Ok-clause-told
returns-in-Ok-clause-told g c = told_program (g.I.Inputs.contents c.args.inputs.now) c.args.name.now c.load.new.into c.checked.result c.in-Ok.ensures.ok c.checked.ensures.exact
