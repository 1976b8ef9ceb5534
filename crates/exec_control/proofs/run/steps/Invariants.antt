use Rattle.std.proofs.Common.{◌≡◌, drop, map}
use Rattle.exec_code.specs.Steps.{run_step, one_by_one}
use Rattle.exec_tables.specs.Applying.{numbered_by}
use Rattle.exec_control.proofs.run.steps.Given as goal

abbrev pub invariant-loop-x : goal.invariant-loop-x
invariant-loop-x l =
    one_by_one (map run_step (drop l.x-index l.xs)) (numbered_by l.locals.items.now) l.run
    ≡ one_by_one (map run_step l.xs) (numbered_by l.locals.items.now) l.fn.run
