use Rattle.std.proofs.Common.{◌≡◌, ◌↔◌, IsTrue, take}
use Rattle.proto_safety.specs.LegalLines.{CellsAreFolded}
use Rattle.report_audit.specs.Notes.{notes_along, all_noted}
use Rattle.report_audit.proofs.notes.note_lists.Given as goal

abbrev pub invariant-loop-flow : goal.invariant-loop-flow
invariant-loop-flow g l =
    record {
      met : IsTrue l.met ↔ CellsAreFolded (g.A.App.meaning l.fn.app) l.fn.feeds (take l.flow-index l.flows);
      notes : l.notes.entries ≡ all_noted l.fn.notes.entries (notes_along (g.A.App.meaning l.fn.app) l.fn.feeds (take l.flow-index l.flows));
    }
