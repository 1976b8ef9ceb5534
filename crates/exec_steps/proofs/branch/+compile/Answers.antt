use Rattle.exec_steps.proofs.Turns.{steps_more}
use Rattle.exec_steps.proofs.branch.+compile.Goals as goal

pub steps_of-loop-x-preserved : goal.steps_of-loop-x-preserved
steps_of-loop-x-preserved t c =
    steps_more c.args.locals.now c.args.sc c.loop-x.steps c.push.new.self c.in_ok-step_of.field-0 c.args.xs.now c.loop-x.x-index c.x-item.result c.loop-x-test.true c.x-item.is c.in_ok-push.ensures.ok c.loop-x.invariant c.in_ok-step_of.ensures
