-- What steps do to a run.
use Rattle.std.specs.Prelude.{ℕ, suc, ◌%◌, ◌^◌, Bool, true, false, not, List, [], ◌∷◌, map, Option, Some, None, if◌then◌else◌, set}
use Rattle.p4_ast.specs.declared.statement.P4Validity.{P4Validity}
use Rattle.p4_ast.specs.declared.statement.P4Validity.TheVariants as validity
use Rattle.app_data.specs.declared.run.Run.{Run}
use Rattle.app_data.specs.declared.value.Value.{Value}
use Rattle.app_meaning.specs.Values.{truth, holds}
use Rattle.app_meaning.specs.Slots.{value_in}
use Rattle.app_meaning.specs.Assigning.{set_slot, is_invalid, assign_slot, zeroed}
use Rattle.app_meaning.specs.Statements.{with_values, with_key, key_bytes, cell_of, cell_number, member, store}
use Rattle.exec_code.specs.declared.code.Code.{Code}
use Rattle.exec_code.specs.declared.step.Target.{Target}
use Rattle.exec_code.specs.declared.step.Reading.{Reading}
use Rattle.exec_code.specs.declared.step.Writing.{Writing}
use Rattle.exec_code.specs.declared.step.Test.{Test}
use Rattle.exec_code.specs.declared.step.Test.TheVariants as test
use Rattle.exec_code.specs.declared.step.Step.{Step, fold-Step}
use Rattle.exec_code.specs.declared.step.Step.TheOpen as layer
use Rattle.exec_code.specs.declared.step.Step.TheOpen.{Step-F}
use Rattle.exec_code.specs.Running.{run_code}

-- what the actions and tables of these numbers do
pub record Numbered : Type 0 where
  pub call : Option ℕ → List Value → Run → Run
  pub apply : Option ℕ → Run → Run × Bool

-- the values after a number went to its target
abbrev pub assign_at : Target → ℕ → List Value → List Value
assign_at t n values = if is_invalid values t.header then values else assign_slot values t.slot t.bits n

-- the number of an index, where there is one
abbrev pub index_number : Option Code → List Value → Option ℕ
index_number None values = None
index_number (Some c) values = Some (run_code c values).number

-- a read
abbrev pub read_at : Reading → Run → Run
read_at r run =
    with_values run (assign_at r.target (cell_number run.cells (cell_of r.cells.0 r.cells.1 (index_number r.index run.values)) % 2 ^ r.width) run.values)

-- a write of a value to one cell, or by an index and a value to a member of an array
abbrev pub write_range : ℕ → Option ℕ → Code → Option Code → Run → Run
write_range first None c second run = store (Some first) ((run_code c run.values).number % 2 ^ 64) run
write_range first (Some size) c None run = run
write_range first (Some size) c (Some v) run = store (member first size (run_code c run.values).number) ((run_code v run.values).number % 2 ^ 64) run

-- a write
abbrev pub write_at : Writing → Run → Run
write_at w run = write_range w.cells.0 w.cells.1 w.first w.second run

-- a header with so many fields becomes valid or invalid
abbrev pub validated : P4Validity → ℕ → ℕ → List Value → List Value
validated validity.SetInvalid h fields values = set (zeroed fields (suc h) values) h (truth false)
validated validity.SetValid h fields values = if holds (value_in values h) then values else set (zeroed fields (suc h) values) h (truth true)

-- whether this is the outcome that is wanted
abbrev pub is_wanted : Bool → Bool → Bool
is_wanted true hit = hit
is_wanted false hit = not hit

-- the run after a test, and whether it holds
abbrev pub test_at : Test → Numbered → Run → Run × Bool
test_at (test.Holds c) ns run = (run, holds (run_code c run.values))
test_at (test.Hits table wanted) ns run = let applied = ns.apply table run in (applied.0, is_wanted wanted applied.1)

-- what a step does
abbrev pub Does : Type 0
Does = Numbered → Run → Run

-- one after the other
abbrev pub one_by_one : List Does → Does
one_by_one [] ns run = run
one_by_one (f ∷ fs) ns run = one_by_one fs ns (f ns run)

-- one of two branches, by a test
abbrev pub either : Does → Does → Numbered → Run × Bool → Run
either first second ns tested = if tested.1 then first ns tested.0 else second ns tested.0

-- a step, where what those of its branches do is given
abbrev pub step_step : Step-F Does → Does
step_step (layer.Set slot c) ns run = with_values run (set_slot run.values slot (run_code c run.values))
step_step (layer.Assign target c) ns run = with_values run (assign_at target (run_code c run.values).number run.values)
step_step (layer.Read r) ns run = read_at r run
step_step (layer.Write w) ns run = write_at w run
step_step (layer.Key c) ns run = with_key run (key_bytes (run_code c run.values))
step_step (layer.Validate v h fields) ns run = with_values run (validated v h fields run.values)
step_step (layer.Apply table) ns run = (ns.apply table run).0
step_step (layer.Call action args) ns run = ns.call action (map (λ c. run_code c run.values) args) run
step_step (layer.Block steps) ns run = one_by_one steps ns run
step_step (layer.If test first second) ns run = either first second ns (test_at test ns run)

-- the run after a step
abbrev pub run_step : Step → Does
run_step = fold-Step Does step_step
