-- What calls and tables do, by their numbers.
use Rattle.std.specs.Prelude.{ℕ, Bool, true, false, List, map, Option, None, Some}
use Rattle.app_data.specs.declared.run.Run.{Run}
use Rattle.app_data.specs.declared.value.Value.{Value}
use Rattle.exec_code.specs.declared.code.Code.{Code}
use Rattle.exec_code.specs.Running.{run_code}
use Rattle.exec_code.specs.Steps.{Numbered}
use Rattle.exec_actions.specs.Acting.{run_action_at}
use Rattle.exec_tables.specs.declared.local.Call.{Call}
use Rattle.exec_tables.specs.declared.local.Table.{Table}
use Rattle.exec_tables.specs.declared.local.Local.{Local}
use Rattle.exec_tables.specs.declared.local.Local.TheVariants as local
use Rattle.match_tables.specs.Winning.{look}
use Rattle.table_rows.specs.Rows.{row_at, numbers}

-- the values of codes
abbrev pub code_values : List Code → List Value → List Value
code_values cs values = map (λ c. run_code c values) cs

-- a call of a local: nothing where it is no action
abbrev pub called_by : Option Local → List Value → Run → Run
called_by None args run = run
called_by (Some (local.Action a)) args run = run_action_at a args run
called_by (Some (local.Table t)) args run = run
called_by (Some local.Other) args run = run

-- a call of the local of this number
abbrev pub call_at : List Local → Option ℕ → List Value → Run → Run
call_at ls i args run = called_by (row_at ls i) args run

-- a call with the values of its arguments
abbrev pub run_call_at : List Local → Call → Run → Run
run_call_at ls c run = call_at ls c.action (code_values c.args run.values) run

-- the default call, nothing where there is none
abbrev pub default_at : List Local → Option Call → Run → Run
default_at ls None run = run
default_at ls (Some c) run = run_call_at ls c run

-- the run after the winning entry's call, or else the default one, and whether it was a hit
abbrev pub after_at : List Local → Option Call → Option Call → Run → Run × Bool
after_at ls default None run = (default_at ls default run, false)
after_at ls default (Some c) run = (run_call_at ls c run, true)

-- the call of the entry that wins
abbrev pub looked_at : Table → List Value → Option Call
looked_at t values = row_at t.calls (look t.rows (numbers (code_values t.keys values)))

-- the run after a table, and whether it was a hit
abbrev pub table_at : List Local → Table → Run → Run × Bool
table_at ls t run = after_at ls t.default (looked_at t run.values) run

-- a table that is applied: nothing where it is none
abbrev pub applied_by : List Local → Option Local → Run → Run × Bool
applied_by ls None run = (run, false)
applied_by ls (Some (local.Action a)) run = (run, false)
applied_by ls (Some (local.Table t)) run = table_at ls t run
applied_by ls (Some local.Other) run = (run, false)

-- the table of this number is applied
abbrev pub apply_at : List Local → Option ℕ → Run → Run × Bool
apply_at ls i run = applied_by ls (row_at ls i) run

-- what the numbers of locals do
abbrev pub numbered_by : List Local → Numbered
numbered_by ls = record { call = call_at ls; apply = apply_at ls }
