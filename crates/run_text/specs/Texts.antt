-- The text of a run: what is written of its lines, as they come.
use Rattle.std.specs.Prelude.{ℕ, Bool, true, false, List, [], flat_map}
use Rattle.rp_base.specs.declared.event.Event.{Event}
use Rattle.rp_base.specs.declared.line.Line.{Line}
use Rattle.rp_app.specs.Application.{Application}
use Rattle.proto_model.specs.World.{Setup}
use Rattle.proto_model.specs.EndLines.{report}
use Rattle.plain_run.specs.Plain.{plain_report}
use Rattle.run_history.specs.Shown.{shown}
use Rattle.run_report.specs.Report.{line_text}

-- what is written of a line
abbrev pub line_written : Line → List ℕ
line_written l = line_text l

-- what is written of lines, one after the other
abbrev pub lines_written : List Line → List ℕ
lines_written ls = flat_map line_written ls

-- the text of the report of a run, with the frames that it sends or without them
abbrev pub report_text : Bool → Application → Setup → List Event → List ℕ
report_text frames app setup events = lines_written (shown (report frames app setup events))

-- the text of the report of one switch that never fails
abbrev pub plain_text : Application → List Event → List ℕ
plain_text app events = lines_written (plain_report app events)

-- the text of a line while a run goes on: a frame that is sent has none unless frames are asked for
abbrev pub running_text : Bool → Line → List ℕ
running_text true l = line_written l
running_text false (Line.Send event frame from to kind bytes) = []
running_text false l = line_written l

-- the text of the lines of an event
abbrev pub running_texts : Bool → List Line → List ℕ
running_texts frames ls = flat_map (running_text frames) ls
