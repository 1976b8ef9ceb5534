use Rattle.tree_eval.specs.Seen.{seen}
use Rattle.exec_tables.proofs.Growing.{locals_more}
use Rattle.exec_tables.proofs.made.each_of.Goals as goal

pub loop-l-preserved : goal.loop-l-preserved
loop-l-preserved c =
    locals_more (seen c.args.sc) c.args.locals.now c.loop-l.xs c.push.new.self c.in_ok-local_of.field-0 c.args.locals.now c.loop-l.l-index c.l-item.result c.loop-l-test.true c.l-item.is c.in_ok-push.ensures.ok c.loop-l.invariant c.in_ok-local_of.ensures
