-- What is promised of the text of a run.
use Rattle.std.specs.Prelude.{◌≡◌, ℕ, List, Option, Some, None, Result, Ok, Err}
use Rattle.rp_base.specs.Outside.{Grows, GrowsByFront}
use Rattle.rp_base.specs.declared.event.Event.{Event}
use Rattle.rp_base.specs.declared.line.Line.{Line}
use Rattle.rp_app.specs.Application.{Application}
use Rattle.proto_safety.specs.LegalLines.{LegalLines}
use Rattle.loss_laws.specs.BoundedLines.{BoundedLines}
use Rattle.sched_lang.specs.declared.schedule.Schedule.{Schedule}
use Rattle.run_report.specs.Report.{lines_text}
use Rattle.run_core.specs.declared.status.Status.{Status}
use Rattle.run_core.specs.declared.status.Status.TheVariants as status
use Rattle.run_core.specs.declared.loading.Machine.{Machine}
use Rattle.run_core.specs.Commands.{Command, Plain, Run, form_of}
use Rattle.run_core.specs.Outcomes.{◌>>=◌, schedule_in, subject_in}

-- a run that is asked for: its application and its schedule
pub record Asked : Type 0 where
  pub app : Application
  pub schedule : Schedule

-- what there is, if nothing stands in its place
abbrev pub ok_of : {A E : Type 0} → Result A E → Option A
ok_of (Ok x) = Some x
ok_of (Err answer) = None

-- the run that a command asks for, where its program and its schedule are accepted
abbrev pub asked_at : Option Command → (List ℕ → Option (List ℕ)) → Option Asked
asked_at None contents = None
asked_at (Some (Plain subject schedule)) contents = None
asked_at (Some (Run subject schedule frames)) contents = ok_of (do
  app ← subject_in subject contents
  s ← schedule_in Machine.World app.cell_count (contents schedule)
  Ok (record { app = app; schedule = s }))

-- the run that these words ask for over inputs with these contents, where all is accepted
abbrev pub asked : List (List ℕ) → (List ℕ → Option (List ℕ)) → Option Asked
asked words contents = asked_at (form_of words) contents

-- A text of lines that are legal over these events: what it shows of each flow is what one switch that never fails gives along the
-- flow's serial list. The packets that are fed are those of the events that no line refuses.
pub record IsLegalText (app : Application) (events : List Event) (text : List ℕ) : Type 0 where
  pub lines : List Line
  pub says : text ≡ lines_text lines
  pub legal : LegalLines app events lines

-- A text of lines that lose boundedly over these events: each output is what one switch that never fails gives along what the flow's
-- earlier epochs keep and the marks before it, and the cells are those along what is kept.
pub record IsBoundedText (app : Application) (events : List Event) (text : List ℕ) : Type 0 where
  pub lines : List Line
  pub says : text ≡ lines_text lines
  pub bounded : BoundedLines app events lines

-- this text was written, whole where all is done, and else a front of it
abbrev pub Wrote : Status → List ℕ → Option (List ℕ) → Option (List ℕ) → Type 0
Wrote status.Done text old new = Grows old new text
Wrote answer text old new = GrowsByFront old new text

-- what was written of a run in strict mode is of a legal text
pub record WroteLegal (answer : Status) (run : Asked) (old new : Option (List ℕ)) : Type 0 where
  pub text : List ℕ
  pub legal : IsLegalText run.app run.schedule.events text
  pub wrote : Wrote answer text old new

-- what was written of a run in snapshot mode is of a text that loses boundedly
pub record WroteBounded (answer : Status) (run : Asked) (old new : Option (List ℕ)) : Type 0 where
  pub text : List ℕ
  pub bounded : IsBoundedText run.app run.schedule.events text
  pub wrote : Wrote answer text old new
