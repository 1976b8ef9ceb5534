use Rattle.std.proofs.Common.{◌≡◌, List, ℕ, [], ◌++◌, ◌+◌, refl, sym, ap, subst, arith, ◌∙◌, drop, true}
use Rattle.std.proofs.lemmas.List.{append-nil}
use Rattle.std.proofs.lemmas.List.Elements.{All-same}
use Rattle.rp_base.specs.declared.line.Line.{Line}
use Rattle.plain_run.specs.Plain.{PlainSwitch, end_lines, plain_step}
use Rattle.run_report.specs.Report.{NamesKind}
use Rattle.run_text.specs.Texts.{lines_written, plain_text}
use Rattle.run_text.proofs.Fronts.{Midway, Midway-begun, Midway-more, Midway-front, Midway-part, Midway-whole, on_err, on_err-map, on_ok-map, HasCause-later, HasCause-on}
use Rattle.run_text.proofs.PlainTexts.{rest_text, rest_text-on, rest_text-end, step_counts, step_names, end_names}
use Rattle.run_text.proofs.running.write_plain.Goals as goal

pub loop-event-init : goal.loop-event-init
loop-event-init g c =
    let whole = plain_text (g.A.PlainApp.meaning c.args.app) c.args.events.now in
    let here = g.K.Sink.written c.args.out.now in
    record {
      same_app = rw c.new-switch.ensures refl;
      calls = rw c.new-switch.ensures refl;
      midway = rw c.new-switch.ensures (Midway-begun here whole);
      later = omega arith;
    }

pub loop-event-preserved : goal.loop-event-preserved
loop-event-preserved g c =
    let app = g.A.PlainApp.meaning c.args.app in
    let i = c.loop-event.event-index in
    let on : (c.on.new.self.switch, c.in_ok-lines.lines) ≡ plain_step app c.loop-event.switch.switch c.event-item.result =
    rw c.loop-event.invariant.same_app at c.in_ok-lines.ensures.step in
    let cut = rest_text-on app c.loop-event.switch.switch c.on.new.self.switch c.args.events.now i c.event-item.result c.in_ok-lines.lines (omega arith) c.event-item.is on in
    record {
      same_app = c.on.ensures.app ∙ c.loop-event.invariant.same_app;
      calls = ap (λ (p : PlainSwitch × List Line). p.0.event) on ∙ step_counts app c.loop-event.switch.switch c.event-item.result ∙ ap (λ n. n + 1) c.loop-event.invariant.calls;
      midway = Midway-more _ _ _ _ _ _ (rw cut at c.loop-event.invariant.midway) (rw c.as_slice.ensures at c.in_ok-write_lines.ensures.ok);
      later = omega arith;
    }

pub returns-in_err-lines-clause-err : goal.returns-in_err-lines-clause-err
returns-in_err-lines-clause-err g c = on_err c.from_residual.result (Midway-front _ _ _ _ c.loop-event.invariant.midway)

pub returns-in_err-lines-2-clause-err : goal.returns-in_err-lines-2-clause-err
returns-in_err-lines-2-clause-err g c = on_err c.from_residual-in_err-lines-2.result (Midway-front _ _ _ _ c.loop-event.invariant.midway)

pub write_lines-requires : goal.write_lines-requires
write_lines-requires g c =
    let app = g.A.PlainApp.meaning c.args.app in
    let on : (c.on.new.self.switch, c.in_ok-lines.lines) ≡ plain_step app c.loop-event.switch.switch c.event-item.result =
    rw c.loop-event.invariant.same_app at c.in_ok-lines.ensures.step in
    let lines : PlainSwitch × List Line → List Line = λ p. p.1 in
    All-same NamesKind _ (plain_step app c.loop-event.switch.switch c.event-item.result).1 (c.as_slice.ensures ∙ ap lines on) (step_names app c.loop-event.switch.switch c.event-item.result)

pub returns-in_err-write_lines-clause-err : goal.returns-in_err-write_lines-clause-err
returns-in_err-write_lines-clause-err g c =
    let app = g.A.PlainApp.meaning c.args.app in
    let i = c.loop-event.event-index in
    let on : (c.on.new.self.switch, c.in_ok-lines.lines) ≡ plain_step app c.loop-event.switch.switch c.event-item.result =
    rw c.loop-event.invariant.same_app at c.in_ok-lines.ensures.step in
    let cut = rest_text-on app c.loop-event.switch.switch c.on.new.self.switch c.args.events.now i c.event-item.result c.in_ok-lines.lines (omega arith) c.event-item.is on in
    on_err c.from_residual-in_err-write_lines.result (Midway-part _ _ _ _ _ _ (rw cut at c.loop-event.invariant.midway) (rw c.as_slice.ensures at c.in_err-write_lines.ensures.err))

pub write_lines-requires-2 : goal.write_lines-requires-2
write_lines-requires-2 g c = All-same NamesKind _ (end_lines c.loop-event.switch.switch) (c.as_slice-2.ensures ∙ c.in_ok-lines-2.ensures) (end_names c.loop-event.switch.switch)

pub returns-clause-err : goal.returns-clause-err
returns-clause-err g c =
    let app = g.A.PlainApp.meaning c.args.app in
    let last : c.as_slice-2.result.now ≡ end_lines c.loop-event.switch.switch = c.as_slice-2.ensures ∙ c.in_ok-lines-2.ensures in
    let left : rest_text app c.loop-event.switch.switch (drop c.loop-event.event-index c.args.events.now) ≡ lines_written c.as_slice-2.result.now ++ [] =
    rest_text-end app c.loop-event.switch.switch c.args.events.now c.loop-event.event-index (omega arith) ∙ ap lines_written (sym last) ∙ sym (append-nil _) in
    let midway = rw left at c.loop-event.invariant.midway in
    on_err-map c.write_lines-2.result (λ part. Midway-part _ _ _ _ _ _ midway part) c.write_lines-2.ensures.err

pub returns-clause-ok : goal.returns-clause-ok
returns-clause-ok g c =
    let app = g.A.PlainApp.meaning c.args.app in
    let last : c.as_slice-2.result.now ≡ end_lines c.loop-event.switch.switch = c.as_slice-2.ensures ∙ c.in_ok-lines-2.ensures in
    let left : rest_text app c.loop-event.switch.switch (drop c.loop-event.event-index c.args.events.now) ≡ lines_written c.as_slice-2.result.now ++ [] =
    rest_text-end app c.loop-event.switch.switch c.args.events.now c.loop-event.event-index (omega arith) ∙ ap lines_written (sym last) ∙ sym (append-nil _) in
    let midway = rw left at c.loop-event.invariant.midway in
    on_ok-map c.write_lines-2.result (λ whole. Midway-whole _ _ _ (Midway-more _ _ _ _ _ _ midway whole)) c.write_lines-2.ensures.ok

pub returns-in_err-write_lines-clause-cause : goal.returns-in_err-write_lines-clause-cause
returns-in_err-write_lines-clause-cause g c =
    HasCause-on _ _ _ c.from_residual-in_err-write_lines.result _ _ c.loop-event.invariant.later c.from_residual-in_err-write_lines.ensures.1 c.in_err-write_lines.ensures.cause

pub returns-clause-cause : goal.returns-clause-cause
returns-clause-cause g c = HasCause-later _ _ _ c.write_lines-2.result _ c.loop-event.invariant.later c.write_lines-2.ensures.cause
