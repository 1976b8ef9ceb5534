use Rattle.tree_eval.specs.Seen.{seen}
use Rattle.exec_tables.proofs.Tying.{tied}
use Rattle.exec_tables.proofs.Prepared.{prepared}
use Rattle.exec_tables.proofs.made.locals_of.Goals as goal

pub returns-clause-tied : goal.returns-clause-tied
returns-clause-tied c = tied (seen c.args.sc) c.args.locals.now c.in_ok-made.made c.in_ok-made.ensures

pub returns-clause-ready : goal.returns-clause-ready
returns-clause-ready c = prepared (seen c.args.sc) c.args.locals.now c.args.locals.now c.in_ok-made.made c.in_ok-made.ensures
