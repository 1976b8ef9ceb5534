use Rattle.std.proofs.Common.{◌≡◌, take, map}
use Rattle.exec_code.specs.Running.{run_code}
use Rattle.exec_steps.proofs.run.values_of.Given as goal

abbrev pub invariant-loop-c : goal.invariant-loop-c
invariant-loop-c l = l.vs ≡ map (λ c. run_code c l.values) (take l.c-index l.args)
