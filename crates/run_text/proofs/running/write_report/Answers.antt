use Rattle.std.proofs.Common.{◌≡◌, List, ℕ, [], ◌++◌, ◌+◌, refl, sym, ap, subst, arith, ◌∙◌, drop}
use Rattle.std.proofs.lemmas.List.{append-nil}
use Rattle.std.proofs.lemmas.List.Elements.{All-same}
use Rattle.rp_base.specs.declared.line.Line.{Line}
use Rattle.proto_model.specs.World.{World}
use Rattle.proto_model.specs.WorldStep.{world_step}
use Rattle.proto_model.specs.EndLines.{end_lines}
use Rattle.run_history.specs.Shown.{stepped, shown}
use Rattle.run_report.specs.Report.{NamesKind}
use Rattle.run_text.specs.Texts.{lines_written, report_text}
use Rattle.run_text.proofs.Fronts.{Midway, Midway-begun, Midway-more, Midway-front, Midway-part, Midway-whole, on_err, on_err-map, on_ok-map, HasCause-later, HasCause-on}
use Rattle.run_text.proofs.ReportTexts.{rest_text, rest_text-on, rest_text-end, report_text-is, shown-names}
use Rattle.run_text.proofs.running.write_report.Goals as goal

pub loop-event-init : goal.loop-event-init
loop-event-init g c =
    let app = g.A.App.meaning c.args.app in
    let whole = report_text c.args.frames app c.args.setup.now c.args.events.now in
    let here = g.K.Sink.written c.args.out.now in
    let P : List ℕ → Type 0 = λ rest. Midway here here whole rest in
    let begun = subst P (report_text-is c.args.frames app c.args.setup.now c.args.events.now) (Midway-begun here whole) in
    record {
      same_app = rw c.in_ok-world.ensures refl;
      same_setup = rw c.in_ok-world.ensures refl;
      calls = rw c.in_ok-world.ensures refl;
      midway = rw c.in_ok-world.ensures begun;
      later = omega arith;
    }

pub loop-event-preserved : goal.loop-event-preserved
loop-event-preserved g c =
    let app = g.A.App.meaning c.args.app in
    let i = c.loop-event.event-index in
    let on : (c.on.new.self.world, c.in_ok-lines.lines) ≡ stepped app c.loop-event.world.world c.event-item.result =
    rw c.loop-event.invariant.same_app at c.in_ok-lines.ensures.ok in
    let cut = rest_text-on c.args.frames app c.loop-event.world.world c.on.new.self.world c.args.events.now i c.event-item.result c.in_ok-lines.lines (omega arith) c.event-item.is on in
    record {
      same_app = c.on.ensures.app ∙ c.loop-event.invariant.same_app;
      same_setup = c.on.ensures.setup ∙ c.loop-event.invariant.same_setup;
      calls = c.in_ok-lines.ensures.calls ∙ ap (λ n. n + 1) c.loop-event.invariant.calls;
      midway = Midway-more _ _ _ _ _ _ (rw cut at c.loop-event.invariant.midway) (rw c.as_slice.ensures at c.in_ok-write_lines.ensures.ok);
      later = omega arith;
    }

pub returns-in_err-lines-clause-err : goal.returns-in_err-lines-clause-err
returns-in_err-lines-clause-err g c = on_err c.from_residual-in_err-lines.result (Midway-front _ _ _ _ c.loop-event.invariant.midway)

pub returns-in_err-lines-2-clause-err : goal.returns-in_err-lines-2-clause-err
returns-in_err-lines-2-clause-err g c = on_err c.from_residual-in_err-lines-2.result (Midway-front _ _ _ _ c.loop-event.invariant.midway)

pub write_lines-requires : goal.write_lines-requires
write_lines-requires g c =
    let app = g.A.App.meaning c.args.app in
    let on : (c.on.new.self.world, c.in_ok-lines.lines) ≡ stepped app c.loop-event.world.world c.event-item.result =
    rw c.loop-event.invariant.same_app at c.in_ok-lines.ensures.ok in
    let lines : World × List Line → List Line = λ p. p.1 in
    let written = (world_step app c.loop-event.world.world c.event-item.result).1 in
    All-same NamesKind _ (shown written) (c.as_slice.ensures ∙ ap lines on) (shown-names written)

pub returns-in_err-write_lines-clause-err : goal.returns-in_err-write_lines-clause-err
returns-in_err-write_lines-clause-err g c =
    let app = g.A.App.meaning c.args.app in
    let i = c.loop-event.event-index in
    let on : (c.on.new.self.world, c.in_ok-lines.lines) ≡ stepped app c.loop-event.world.world c.event-item.result =
    rw c.loop-event.invariant.same_app at c.in_ok-lines.ensures.ok in
    let cut = rest_text-on c.args.frames app c.loop-event.world.world c.on.new.self.world c.args.events.now i c.event-item.result c.in_ok-lines.lines (omega arith) c.event-item.is on in
    on_err c.from_residual-in_err-write_lines.result (Midway-part _ _ _ _ _ _ (rw cut at c.loop-event.invariant.midway) (rw c.as_slice.ensures at c.in_err-write_lines.ensures.err))

pub write_lines-requires-2 : goal.write_lines-requires-2
write_lines-requires-2 g c =
    let ends = end_lines (g.A.App.meaning c.loop-event.world.app).cell_count c.loop-event.world.world in
    All-same NamesKind _ (shown ends) (c.as_slice-2.ensures ∙ c.in_ok-lines-2.ensures.ok) (shown-names ends)

pub returns-clause-err : goal.returns-clause-err
returns-clause-err g c =
    let app = g.A.App.meaning c.args.app in
    let last : c.as_slice-2.result.now ≡ shown (end_lines app.cell_count c.loop-event.world.world) =
    c.as_slice-2.ensures ∙ (rw c.loop-event.invariant.same_app at c.in_ok-lines-2.ensures.ok) in
    let left : rest_text c.args.frames app c.loop-event.world.world (drop c.loop-event.event-index c.args.events.now) ≡ lines_written c.as_slice-2.result.now ++ [] =
    rest_text-end c.args.frames app c.loop-event.world.world c.args.events.now c.loop-event.event-index (omega arith) ∙ ap lines_written (sym last) ∙ sym (append-nil _) in
    let midway = rw left at c.loop-event.invariant.midway in
    on_err-map c.write_lines-2.result (λ part. Midway-part _ _ _ _ _ _ midway part) c.write_lines-2.ensures.err

pub returns-clause-ok : goal.returns-clause-ok
returns-clause-ok g c =
    let app = g.A.App.meaning c.args.app in
    let last : c.as_slice-2.result.now ≡ shown (end_lines app.cell_count c.loop-event.world.world) =
    c.as_slice-2.ensures ∙ (rw c.loop-event.invariant.same_app at c.in_ok-lines-2.ensures.ok) in
    let left : rest_text c.args.frames app c.loop-event.world.world (drop c.loop-event.event-index c.args.events.now) ≡ lines_written c.as_slice-2.result.now ++ [] =
    rest_text-end c.args.frames app c.loop-event.world.world c.args.events.now c.loop-event.event-index (omega arith) ∙ ap lines_written (sym last) ∙ sym (append-nil _) in
    let midway = rw left at c.loop-event.invariant.midway in
    on_ok-map c.write_lines-2.result (λ whole. Midway-whole _ _ _ (Midway-more _ _ _ _ _ _ midway whole)) c.write_lines-2.ensures.ok

pub returns-in_err-write_lines-clause-cause : goal.returns-in_err-write_lines-clause-cause
returns-in_err-write_lines-clause-cause g c =
    HasCause-on _ _ _ c.from_residual-in_err-write_lines.result _ _ c.loop-event.invariant.later c.from_residual-in_err-write_lines.ensures.1 c.in_err-write_lines.ensures.cause

pub returns-clause-cause : goal.returns-clause-cause
returns-clause-cause g c = HasCause-later _ _ _ c.write_lines-2.result _ c.loop-event.invariant.later c.write_lines-2.ensures.cause
