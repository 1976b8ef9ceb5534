use Rattle.std.proofs.Common.{◌≡◌, length, take, drop}
use Rattle.proto_model.specs.Legal.{folded}
use Rattle.report_audit.specs.Notes.{notes_of, notes_from, all_noted}
use Rattle.report_audit.proofs.notes.note_list.Given as goal

abbrev pub invariant-loop-mark : goal.invariant-loop-mark
invariant-loop-mark g l =
    record {
      many : length l.cells ≡ (g.A.App.meaning l.fn.app).cell_count;
      cells : l.cells ≡ folded (g.A.App.meaning l.fn.app) l.fn.feeds (take l.mark-index l.marks);
      notes :
          all_noted l.notes.entries (notes_from (g.A.App.meaning l.fn.app) l.fn.feeds l.cells l.greatest (drop l.mark-index l.marks))
          ≡ all_noted l.fn.notes.entries (notes_of (g.A.App.meaning l.fn.app) l.fn.feeds l.marks);
    }
