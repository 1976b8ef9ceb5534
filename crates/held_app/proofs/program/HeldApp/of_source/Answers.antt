use Rattle.held_app.proofs.Sources.{held_few, held_is}
use Rattle.held_app.proofs.program.HeldApp.of_source.Goals as goal

pub returns-clause-value : goal.returns-clause-value
returns-clause-value c = held_is c.args.c.now.tree c.args.c.now.cells (c.tree.ensures.source c.requires) c.in_ok-rewritten.rewritten c.in_ok-rewritten.ensures c.of.result c.of.ensures

pub returns-clause-few : goal.returns-clause-few
returns-clause-few c = held_few c.args.c.now.tree c.args.c.now.cells (c.tree.ensures.source c.requires) c.in_ok-rewritten.rewritten c.in_ok-rewritten.ensures c.of.result c.of.ensures
