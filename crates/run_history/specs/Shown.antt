-- Lines, and steps with their lines, as a report shows them.
use Rattle.std.specs.Prelude.{List}
use Rattle.rp_base.specs.declared.event.Event.{Event}
use Rattle.rp_base.specs.declared.line.Line.{Line as ReportLine}
use Rattle.rp_app.specs.Application.{Application}
use Rattle.proto_model.specs.Lines.{Line, printed_line, printed}
use Rattle.proto_model.specs.World.{World}
use Rattle.proto_model.specs.WorldStep.{WorldStep, world_step}
use Rattle.rp_frame.specs.Spelling.{kind, spelling}

-- a line as the report shows it, each frame by its one spelling
abbrev pub line_of : Line → ReportLine
line_of l = printed_line kind spelling l

-- these lines as the report shows them
abbrev pub shown : List Line → List ReportLine
shown lines = printed kind spelling lines

-- a step with its lines as a report shows them
abbrev pub shown_step : WorldStep → World × List ReportLine
shown_step step = (step.0, shown step.1)

-- the world after an event, with the lines that it writes
abbrev pub stepped : Application → World → Event → World × List ReportLine
stepped app w e = shown_step (world_step app w e)
