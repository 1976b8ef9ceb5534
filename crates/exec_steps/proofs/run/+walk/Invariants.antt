use Rattle.std.proofs.Common.{◌≡◌, drop, map}
use Rattle.exec_code.specs.Steps.{run_step, one_by_one}
use Rattle.exec_steps.specs.Numbers.{numbered}
use Rattle.exec_steps.proofs.run.+walk.Given as goal

abbrev pub invariant-steps-loop-x : goal.invariant-steps-loop-x
invariant-steps-loop-x g l =
    one_by_one (map run_step (drop l.x-index l.xs)) (numbered (g.A.Actions.called l.actions) (g.A.Actions.applied l.actions)) l.run
    ≡ one_by_one (map run_step l.xs) (numbered (g.A.Actions.called l.actions) (g.A.Actions.applied l.actions)) l.fn.run
