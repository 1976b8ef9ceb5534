-- The lines that a report ends with, and the whole report.
use Rattle.std.specs.Prelude.{ℕ, Bool, List, [], ◌∷◌, ◌++◌, if◌then◌else◌, map, flat_map}
use Rattle.proto_data.specs.declared.terms.Mode.{Mode}
use Rattle.proto_data.specs.declared.message.Record.{Record}
use Rattle.rp_base.specs.declared.event.Event.{Event}
use Rattle.rp_app.specs.Application.{Application}
use Rattle.key_table.specs.Table.{Key}
use Rattle.proto_model.specs.World.{World, Setup}
use Rattle.proto_model.specs.Lines.{Line, Serial, Epoch, CellsLine, End, without_sends}
use Rattle.proto_model.specs.Committed.{committed_book, committed_records, epochs_of, journal, serial_marks}
use Rattle.proto_model.specs.Kept.{kept, marks_in}
use Rattle.proto_model.specs.WorldStep.{WorldStep, run}

-- the lines of one flow before its cells
abbrev pub item_lines : Mode → World → Key → List Line
item_lines Mode.Strict w key = Serial key (serial_marks w key) ∷ []
item_lines (Mode.Snapshot bound) w key =
    map (λ e. Epoch key e (kept w key e) (marks_in (journal w key e))) (epochs_of key (committed_book w))

abbrev pub flow_lines : World → Key × Record → List Line
flow_lines w e = item_lines w.terms.mode w e.0 ++ CellsLine e.0 e.1.cells ∷ []

-- the end lines, each flow in order of its first Grant in the committed book
abbrev pub end_lines : ℕ → World → List Line
end_lines cells w = flat_map (flow_lines w) (committed_records cells w) ++ End ∷ []

-- a run's lines and its end lines; the first word is whether frames are shown
abbrev pub reported : Bool → ℕ → WorldStep → List Line
reported frames cells ran = (if frames then ran.1 else without_sends ran.1) ++ end_lines cells ran.0

abbrev pub report : Bool → Application → Setup → List Event → List Line
report frames app setup events = reported frames app.cell_count (run app setup events)
