use Rattle.std.proofs.Common.{arith}
use Rattle.run_text.proofs.Fronts.{Midway-more, Midway-part, on_err}
use Rattle.run_text.proofs.ReportTexts.{running_texts-drop}
use Rattle.run_text.proofs.running.write_lines.Goals as goal

pub returns-in_err-write_line-clause-err : goal.returns-in_err-write_line-clause-err
returns-in_err-write_line-clause-err g c =
    let cut = running_texts-drop c.args.frames c.args.lines.now c.loop-l.l-index c.l-item.result (omega arith) c.l-item.is in
    let part = Midway-part _ _ _ _ _ _ (rw cut at c.loop-l.invariant.midway) c.in_err-write_line.ensures.err in
    on_err c.from_residual.result part

pub loop-l-preserved : goal.loop-l-preserved
loop-l-preserved g c =
    let cut = running_texts-drop c.args.frames c.args.lines.now c.loop-l.l-index c.l-item.result (omega arith) c.l-item.is in
    record {
      midway = Midway-more _ _ _ _ _ _ (rw cut at c.loop-l.invariant.midway) c.in_ok-write_line.ensures.ok;
      later = omega arith;
    }
