use Rattle.run_core.proofs.Loaded.{told_schedule}
use Rattle.run_core.proofs.loading.schedule.Goals as goal

pub returns-in-Ok-clause-told : goal.returns-in-Ok-clause-told
returns-in-Ok-clause-told g c = told_schedule (g.I.Inputs.contents c.args.inputs.now) c.args.machine c.args.cells c.args.name.now c.load.new.into c.fitted.result c.in-Ok.ensures.ok c.fitted.ensures.exact
