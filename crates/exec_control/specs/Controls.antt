-- What a control does.
use Rattle.std.specs.Prelude.{[], ◌∷◌, map}
use Rattle.p4_ast.specs.declared.control.P4Local.{P4Local}
use Rattle.app_data.specs.declared.run.Run.{Run}
use Rattle.app_meaning.specs.Slots.{Scope}
use Rattle.app_meaning.specs.Programs.{run_locals}
use Rattle.app_meaning.specs.Statements.{with_values}
use Rattle.exec_code.specs.Steps.{run_step, one_by_one}
use Rattle.exec_control.specs.declared.made.Control.{Control}
use Rattle.exec_tables.specs.Applying.{numbered_by}

-- the run after the block of a control, whose variables got their first values
abbrev pub control_at : Control → Run → Run
control_at c run = run_step c.body (numbered_by c.locals) (one_by_one (map run_step c.first) (numbered_by c.locals) run)

-- the run after a variable got its first value; nothing for a local of another sort
abbrev pub first_value : P4Local → Scope → Run → Run
first_value l sc run = with_values run (run_locals (l ∷ []) sc run.values)
