use Rattle.std.proofs.Common.{◌≡◌, take, map}
use Rattle.app_data.specs.declared.run.Run.{Run}
use Rattle.app_meaning.specs.Programs.{run_locals}
use Rattle.app_meaning.specs.Statements.{with_values}
use Rattle.exec_code.specs.Steps.{Numbered, run_step, one_by_one}
use Rattle.tree_eval.specs.Seen.{seen}
use Rattle.exec_control.proofs.made.first_of.Given as goal

abbrev pub invariant-loop-l : goal.invariant-loop-l
invariant-loop-l l = (ns : Numbered) (run : Run) → one_by_one (map run_step l.steps) ns run ≡ with_values run (run_locals (take l.l-index l.ls) (seen l.sc) run.values)
