use Rattle.std.proofs.Common.{take}
use Rattle.exec_steps.specs.Tied.{DoAs}
use Rattle.exec_steps.proofs.branch.+compile.Given as goal

abbrev pub invariant-steps_of-loop-x : goal.invariant-steps_of-loop-x
invariant-steps_of-loop-x l = DoAs l.locals l.sc l.steps (take l.x-index l.xs)
