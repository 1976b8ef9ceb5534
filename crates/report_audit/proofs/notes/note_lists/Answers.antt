use Rattle.std.proofs.Common.{◌≡◌, ◌∙◌, ◌+◌, ◌++◌, ◌∷◌, [], List, IsTrue, ◌&&◌, ◌↔◌, ap, sym, subst, take}
use Rattle.std.specs.Str.{bytes_eq}
use Rattle.std.proofs.lemmas.List.{take_more}
use Rattle.rp_base.specs.declared.legality.Flow.{Flow}
use Rattle.rp_app.specs.Application.{Application}
use Rattle.proto_model.specs.Legal.{folded}
use Rattle.proto_model.specs.Feeds.{Each}
use Rattle.report_audit.specs.Notes.{notes_along, notes_of, all_noted}
use Rattle.report_audit.proofs.Folds.{notes_more}
use Rattle.report_audit.proofs.Turns.{met_more, same_lists}
use Rattle.report_audit.proofs.notes.note_lists.Goals as goal

pub loop-flow-preserved : goal.loop-flow-preserved
loop-flow-preserved g c =
    let app : Application = g.A.App.meaning c.args.app.now in
    let done : List Flow = take c.loop-flow.flow-index c.args.flows.now in
    let flow : Flow = c.flow-item.result in
    let more : take (c.loop-flow.flow-index + 1) c.args.flows.now ≡ done ++ flow ∷ [] =
    take_more c.args.flows.now c.loop-flow.flow-index flow c.loop-flow-test.true ∙ ap (λ x. done ++ x ∷ []) (sym c.flow-item.is) in
    let Right : Flow → Type 0 = λ f. f.cells ≡ folded app c.args.feeds.now f.marks in
    let cells : c.in_ok-cells.cells ≡ folded app c.args.feeds.now flow.marks = c.in_ok-cells.ensures.cells ∙ ap (folded app c.args.feeds.now) c.as_slice.ensures in
    let same : IsTrue (bytes_eq c.in_ok-cells.cells flow.cells) ↔ Right flow =
    subst (λ cs. IsTrue (bytes_eq c.in_ok-cells.cells flow.cells) ↔ (flow.cells ≡ cs)) cells (same_lists c.in_ok-cells.cells flow.cells) in
    let noted : c.note_list.new.notes.entries ≡ all_noted c.loop-flow.notes.entries (notes_of app c.args.feeds.now flow.marks) =
    c.in_ok-cells.ensures.notes ∙ ap (λ ms. all_noted c.loop-flow.notes.entries (notes_of app c.args.feeds.now ms)) c.as_slice.ensures in
    record {
      met = subst (λ b. IsTrue b ↔ Each Right (take (c.loop-flow.flow-index + 1) c.args.flows.now)) (sym c.still_met-met.ensures)
          (subst (λ fs. IsTrue (c.loop-flow.met && bytes_eq c.in_ok-cells.cells flow.cells) ↔ Each Right fs) (sym more)
          (met_more Right done flow c.loop-flow.met (bytes_eq c.in_ok-cells.cells flow.cells) c.loop-flow.invariant.met same));
      notes = notes_more app c.args.feeds.now done flow c.args.notes.now.entries c.loop-flow.notes.entries c.note_list.new.notes.entries c.loop-flow.invariant.notes noted
          ∙ ap (λ fs. all_noted c.args.notes.now.entries (notes_along app c.args.feeds.now fs)) (sym more);
    }
