use Rattle.std.proofs.Common.{◌∙◌}
use Rattle.rp_app.specs.Application.{Application}
use Rattle.report_audit.specs.Notes.{all_noted, notes_of}
use Rattle.report_audit.proofs.Folds.{cells_turn, notes_turn}
use Rattle.report_audit.proofs.notes.note_list.Goals as goal

pub loop-mark-preserved : goal.loop-mark-preserved
loop-mark-preserved g c =
    let app : Application = g.A.App.meaning c.args.app.now in
    let step = c.in_ok-output.ensures.step in
    record {
      many = c.in_ok-output.ensures.many ∙ c.loop-mark.invariant.many;
      cells = cells_turn app c.args.feeds.now c.args.marks.now c.loop-mark.mark-index c.loop-mark-test.true c.loop-mark.cells c.process.new.cells c.in_ok-output.output step c.loop-mark.invariant.cells;
      notes = notes_turn app c.args.feeds.now c.args.marks.now c.loop-mark.mark-index c.loop-mark-test.true c.loop-mark.cells c.process.new.cells c.in_ok-output.output step
          c.loop-mark.notes.entries c.insert.new.self.entries (all_noted c.args.notes.now.entries (notes_of app c.args.feeds.now c.args.marks.now)) c.loop-mark.greatest c.greater-greatest.result c.greater-greatest.ensures c.in_ok-insert.ensures.entries c.loop-mark.invariant.notes;
    }
