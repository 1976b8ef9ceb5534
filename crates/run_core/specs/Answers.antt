-- What an answer means, by what was told before and after.
use Rattle.std.specs.Prelude.{◌≡◌, ◌≤◌, ℕ, List, [], Option, Some, None, Result, Ok, Err}
use Rattle.rp_base.specs.Outside.{Grows, GrowsByFront, Rose}
use Rattle.run_core.specs.declared.status.Status.{Status}
use Rattle.run_core.specs.declared.status.Status.TheVariants as status
use Rattle.run_core.specs.Commands.{Command}

-- This answer, with what the sink tells before and after, is right where this is the outcome.
abbrev pub Answers : Status → Result (List ℕ) Status → Option (List ℕ) → Option (List ℕ) → Type 0
Answers status.Done (Ok text) old new = Grows old new text
Answers status.Usage (Ok text) old new = ⊥
Answers (status.ProgramRefused at why) (Ok text) old new = ⊥
Answers (status.ScheduleRefused line why) (Ok text) old new = ⊥
Answers status.InputFault (Ok text) old new = Grows old new []
Answers status.OutputFault (Ok text) old new = GrowsByFront old new text
Answers status.NoMemory (Ok text) old new = GrowsByFront old new text
Answers status.Done (Err answer) old new = ⊥
Answers status.Usage (Err answer) old new = (answer ≡ status.Usage) × Grows old new []
Answers (status.ProgramRefused at why) (Err answer) old new = (answer ≡ status.ProgramRefused at why) × Grows old new []
Answers (status.ScheduleRefused line why) (Err answer) old new = (answer ≡ status.ScheduleRefused line why) × Grows old new []
Answers status.InputFault (Err answer) old new = Grows old new []
Answers status.OutputFault (Err answer) old new = ⊥
Answers status.NoMemory (Err answer) old new = Grows old new []

-- What was loaded, by what is seen of it, is this, or the answer in its place is the right one.
abbrev pub Loads : {A B : Type 0} → (A → B) → Result A Status → Result B Status → Type 0
Loads view (Ok x) due = due ≡ Ok (view x)
Loads view (Err status.Done) due = ⊥
Loads view (Err status.Usage) due = ⊥
Loads view (Err (status.ProgramRefused at why)) due = due ≡ Err (status.ProgramRefused at why)
Loads view (Err (status.ScheduleRefused line why)) due = due ≡ Err (status.ScheduleRefused line why)
Loads view (Err status.InputFault) due = Unit {0}
Loads view (Err status.OutputFault) due = ⊥
Loads view (Err status.NoMemory) due = Unit {0}

-- the answers before a run begins
abbrev pub IsBeforeRun : Status → Type 0
IsBeforeRun status.Done = ⊥
IsBeforeRun status.Usage = Unit {0}
IsBeforeRun (status.ProgramRefused at why) = Unit {0}
IsBeforeRun (status.ScheduleRefused line why) = Unit {0}
IsBeforeRun status.InputFault = Unit {0}
IsBeforeRun status.OutputFault = ⊥
IsBeforeRun status.NoMemory = ⊥

-- the answers where a schedule isn't there, or isn't taken
abbrev pub IsNoSchedule : Status → Type 0
IsNoSchedule status.Done = ⊥
IsNoSchedule status.Usage = ⊥
IsNoSchedule (status.ProgramRefused at why) = ⊥
IsNoSchedule (status.ScheduleRefused line why) = Unit {0}
IsNoSchedule status.InputFault = Unit {0}
IsNoSchedule status.OutputFault = ⊥
IsNoSchedule status.NoMemory = Unit {0}

-- the answers where a program isn't there
abbrev pub IsNoProgram : Status → Type 0
IsNoProgram status.Done = ⊥
IsNoProgram status.Usage = ⊥
IsNoProgram (status.ProgramRefused at why) = Unit {0}
IsNoProgram (status.ScheduleRefused line why) = ⊥
IsNoProgram status.InputFault = Unit {0}
IsNoProgram status.OutputFault = ⊥
IsNoProgram status.NoMemory = Unit {0}

-- the answers where nothing is wrong but that memory may be wanting
abbrev pub IsDoneOrNoMemory : Status → Type 0
IsDoneOrNoMemory status.Done = Unit {0}
IsDoneOrNoMemory status.Usage = ⊥
IsDoneOrNoMemory (status.ProgramRefused at why) = ⊥
IsDoneOrNoMemory (status.ScheduleRefused line why) = ⊥
IsDoneOrNoMemory status.InputFault = ⊥
IsDoneOrNoMemory status.OutputFault = ⊥
IsDoneOrNoMemory status.NoMemory = Unit {0}

-- faulty words have one answer, and others never that one
abbrev pub IsAnswerTo : Option Command → Status → Type 0
IsAnswerTo None answer = answer ≡ status.Usage
IsAnswerTo (Some command) answer = ¬ (answer ≡ status.Usage)

-- the exit status
abbrev pub number_of : Status → ℕ
number_of status.Done = 0
number_of status.Usage = 1
number_of (status.ProgramRefused at why) = 2
number_of (status.ScheduleRefused line why) = 3
number_of status.InputFault = 4
number_of status.OutputFault = 5
number_of status.NoMemory = 6
