use Rattle.tree_eval.specs.Seen.{seen}
use Rattle.exec_tables.proofs.Growing.{calls_more}
use Rattle.exec_tables.proofs.made.calls_of.Goals as goal

pub loop-e-preserved : goal.loop-e-preserved
loop-e-preserved c =
    calls_more (seen c.args.sc) c.args.locals.now c.loop-e.cs c.push.new.self c.in_ok-call_of.field-0 c.args.es.now c.loop-e.e-index c.e-item.result c.loop-e-test.true c.e-item.is c.in_ok-push.ensures.ok c.loop-e.invariant c.in_ok-call_of.ensures
