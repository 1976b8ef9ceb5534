-- What a command line asks for.
use Rattle.std.specs.Prelude.{ℕ, Bool, true, false, List, [], ◌∷◌, if◌then◌else◌, Option, Some, None, option_map, codes}
use Rattle.std.specs.Str.{bytes_eq}

-- what runs: the application that counts packets, or the program of this name
pub data Subject : Type 0 where
  Counting : Subject
  Program : (name : List ℕ) → Subject

-- what is asked for
pub data Command : Type 0 where
  -- the report of one switch that never fails over this schedule
  Plain : (subject : Subject) (schedule : List ℕ) → Command
  -- the report of the run of this schedule, with the frames that are sent or without them
  Run : (subject : Subject) (schedule : List ℕ) (frames : Bool) → Command

-- what a word names as what runs
abbrev pub subject_of : List ℕ → Subject
subject_of word = if bytes_eq word (codes "@count") then Counting else Program word

-- whether frames are asked for, by the words behind a schedule's name
abbrev pub frames_by : List (List ℕ) → Option Bool
frames_by [] = Some false
frames_by (word ∷ []) = if bytes_eq word (codes "--frames") then Some true else None
frames_by (word ∷ more ∷ words) = None

-- the plain run of a schedule, behind whose name no word may stand
abbrev pub plain_by : List ℕ → List ℕ → List (List ℕ) → Option Command
plain_by subject schedule [] = Some (Plain (subject_of subject) schedule)
plain_by subject schedule (word ∷ words) = None

-- the run of a schedule, by the words behind its name
abbrev pub run_by : List ℕ → List ℕ → List (List ℕ) → Option Command
run_by subject schedule words = option_map (Run (subject_of subject) schedule) (frames_by words)

-- the command of a first word, of what runs, of the name of a schedule and of the words behind it
abbrev pub command_by : List ℕ → List ℕ → List ℕ → List (List ℕ) → Option Command
command_by first subject schedule words =
    if bytes_eq first (codes "run") then run_by subject schedule words
    else if bytes_eq first (codes "plain") then plain_by subject schedule words
    else None

-- The command of a command line that has a form: `plain` or `run`, what runs, the name of a schedule, and behind `run` perhaps
-- `--frames`.
abbrev pub form_of : List (List ℕ) → Option Command
form_of [] = None
form_of (first ∷ []) = None
form_of (first ∷ subject ∷ []) = None
form_of (first ∷ subject ∷ schedule ∷ words) = command_by first subject schedule words
