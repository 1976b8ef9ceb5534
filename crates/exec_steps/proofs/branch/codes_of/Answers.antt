use Rattle.tree_eval.specs.Seen.{seen}
use Rattle.exec_steps.proofs.Turns.{codes_more}
use Rattle.exec_steps.proofs.branch.codes_of.Goals as goal

pub loop-e-preserved : goal.loop-e-preserved
loop-e-preserved c = λ values.
    codes_more (seen c.args.sc) values c.loop-e.cs c.push.new.self c.in_ok-code_of.field-0 c.args.es.now c.loop-e.e-index c.e-item.result c.loop-e-test.true c.e-item.is c.in_ok-push.ensures.ok (c.loop-e.invariant values) (c.in_ok-code_of.ensures values)
