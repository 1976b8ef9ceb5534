use Rattle.std.proofs.Common.{◌≡◌, ◌≤◌, drop}
use Rattle.run_text.specs.Texts.{plain_text}
use Rattle.run_text.proofs.Fronts.{Midway}
use Rattle.run_text.proofs.PlainTexts.{rest_text}
use Rattle.run_text.proofs.running.write_plain.Given as goal

abbrev pub invariant-loop-event : goal.invariant-loop-event
invariant-loop-event g l = record {
  same_app : l.switch.app ≡ l.fn.app;
  calls : l.switch.switch.event ≡ l.event-index;
  midway : Midway (g.K.Sink.written l.fn.out) (g.K.Sink.written l.out) (plain_text (g.A.PlainApp.meaning l.fn.app) l.events) (rest_text (g.A.PlainApp.meaning l.fn.app) l.switch.switch (drop l.event-index l.events));
  later : g.K.Sink.faults l.fn.out ≤ g.K.Sink.faults l.out;
}
