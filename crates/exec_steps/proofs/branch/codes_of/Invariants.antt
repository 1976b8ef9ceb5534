use Rattle.std.proofs.Common.{◌≡◌, take, map, List}
use Rattle.app_data.specs.declared.value.Value.{Value}
use Rattle.app_meaning.specs.Statements.{values_of}
use Rattle.exec_code.specs.Running.{run_code}
use Rattle.tree_eval.specs.Seen.{seen}
use Rattle.exec_steps.proofs.branch.codes_of.Given as goal

abbrev pub invariant-loop-e : goal.invariant-loop-e
invariant-loop-e l = (values : List Value) → map (λ c. run_code c values) l.cs ≡ values_of (take l.e-index l.es) (seen l.sc) values
