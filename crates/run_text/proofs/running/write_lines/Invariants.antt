use Rattle.std.proofs.Common.{◌≤◌, drop}
use Rattle.run_text.specs.Texts.{running_texts}
use Rattle.run_text.proofs.Fronts.{Midway}
use Rattle.run_text.proofs.running.write_lines.Given as goal

abbrev pub invariant-loop-l : goal.invariant-loop-l
invariant-loop-l g l = record {
  midway : Midway (g.K.Sink.written l.fn.out) (g.K.Sink.written l.out) (running_texts l.frames l.lines) (running_texts l.frames (drop l.l-index l.lines));
  later : g.K.Sink.faults l.fn.out ≤ g.K.Sink.faults l.out;
}
