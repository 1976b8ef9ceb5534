-- What is written for a command, or the answer in its place.
use Rattle.std.specs.Prelude.{◌≡◌, ℕ, Bool, true, false, List, if◌then◌else◌, nat_lt, Option, Some, None, Result, Ok, Err}
use Rattle.rp_base.specs.declared.refused.Refused.{Refused}
use Rattle.rp_app.specs.Application.{Application, counting}
use Rattle.p4_ast.specs.declared.program.P4Program.{P4Program}
use Rattle.app_meaning.specs.Programs.{application}
use Rattle.p4_checked.specs.Reading.{checked_of}
use Rattle.proto_data.specs.declared.terms.Mode.{Mode}
use Rattle.proto_model.specs.World.{Setup}
use Rattle.sched_lang.specs.declared.schedule.Schedule.{Schedule}
use Rattle.sched_lang.specs.declared.schedule.SchedWhy.{SchedWhy}
use Rattle.sched_lang.specs.declared.schedule.SchedWhy.TheVariants as why
use Rattle.sched_lang.specs.Reading.{Fault, schedule_of, mode_at}
use Rattle.run_text.specs.Texts.{plain_text, report_text}
use Rattle.run_core.specs.declared.status.Status.{Status}
use Rattle.run_core.specs.declared.status.Status.TheVariants as status
use Rattle.run_core.specs.declared.loading.Machine.{Machine}
use Rattle.run_core.specs.Commands.{Command, Plain, Run, Subject, Counting, Program, form_of}

-- what comes next, unless there is an answer in its place
infixl 10 ◌>>=◌
abbrev pub ◌>>=◌ : {A B E : Type 0} → Result A E → (A → Result B E) → Result B E
(Ok x) >>= f = f x
(Err answer) >>= f = Err answer

-- ---- what runs

-- the application of a program, or its refusal
abbrev pub judged : Result P4Program Refused → Result Application Status
judged (Ok t) = Ok (application t)
judged (Err refused) = Err (status.ProgramRefused refused.at refused.why)

-- the application of a program's content, if it is there
abbrev pub program_in : Option (List ℕ) → Result Application Status
program_in None = Err status.InputFault
program_in (Some text) = judged (checked_of text)

-- the application of what runs
abbrev pub subject_in : Subject → (List ℕ → Option (List ℕ)) → Result Application Status
subject_in Counting contents = Ok counting
subject_in (Program name) contents = program_in (contents name)

-- ---- the schedule

-- a schedule that was read, or its refusal
abbrev pub read_or_refused : Result Schedule Fault → Result Schedule Status
read_or_refused (Ok s) = Ok s
read_or_refused (Err fault) = Err (status.ScheduleRefused fault.0 fault.1)

-- Why this machine doesn't take a schedule, by how many cells a flow has and by its mode: strict mode has room for 32 cells, and one
-- switch that never fails takes no snapshots.
abbrev pub mode_fault : Machine → ℕ → Option ℕ → Option SchedWhy
mode_fault machine cells None = if nat_lt 32 cells then Some why.Cells else None
mode_fault Machine.OneSwitch cells (Some bound) = Some why.Mode
mode_fault Machine.World cells (Some bound) = None

-- a schedule, or its refusal at the line of its mode
abbrev pub unless_at : ℕ → Option SchedWhy → Schedule → Result Schedule Status
unless_at line None s = Ok s
unless_at line (Some cause) s = Err (status.ScheduleRefused line cause)

-- the schedule of a text as this machine takes it
abbrev pub fitting : Machine → ℕ → List ℕ → Result Schedule Status
fitting machine cells text = do
  s ← read_or_refused (schedule_of text)
  unless_at (mode_at text) (mode_fault machine cells s.snapshot) s

-- the schedule of a content, if it is there, as this machine takes it
abbrev pub schedule_in : Machine → ℕ → Option (List ℕ) → Result Schedule Status
schedule_in machine cells None = Err status.InputFault
schedule_in machine cells (Some text) = fitting machine cells text

-- ---- the run

-- snapshot mode with this bound, or strict mode
abbrev pub mode_of : Option ℕ → Mode
mode_of None = Mode.Strict
mode_of (Some bound) = Mode.Snapshot bound

-- the nodes and terms that a schedule asks for, without a link
abbrev pub setup_of : Schedule → Setup
setup_of s =
    record {
      switches = s.switches;
      replicas = s.chain;
      terms = record { t_switch = s.t_switch; t_store = s.t_store; ratio = s.ratio; mode = mode_of s.snapshot };
      linked = false;
    }

-- the report of a schedule's content on one switch that never fails
abbrev pub plain_of : Application → Option (List ℕ) → Result (List ℕ) Status
plain_of app content = do
  s ← schedule_in Machine.OneSwitch app.cell_count content
  Ok (plain_text app s.events)

-- the report of a schedule's content in the whole world
abbrev pub run_of : Application → Bool → Option (List ℕ) → Result (List ℕ) Status
run_of app frames content = do
  s ← schedule_in Machine.World app.cell_count content
  Ok (report_text frames app (setup_of s) s.events)

-- what is written for a command, or the answer in its place
abbrev pub outcome_at : Option Command → (List ℕ → Option (List ℕ)) → Result (List ℕ) Status
outcome_at None contents = Err status.Usage
outcome_at (Some (Plain subject schedule)) contents = do
  app ← subject_in subject contents
  plain_of app (contents schedule)
outcome_at (Some (Run subject schedule frames)) contents = do
  app ← subject_in subject contents
  run_of app frames (contents schedule)

-- what is written for these words over inputs with these contents, or the answer in its place
abbrev pub outcome : List (List ℕ) → (List ℕ → Option (List ℕ)) → Result (List ℕ) Status
outcome words contents = outcome_at (form_of words) contents
