use Rattle.std.proofs.Common.{◌≡◌, ◌≤◌, drop}
use Rattle.run_text.specs.Texts.{report_text}
use Rattle.run_text.proofs.Fronts.{Midway}
use Rattle.run_text.proofs.ReportTexts.{rest_text}
use Rattle.run_text.proofs.running.write_report.Given as goal

abbrev pub invariant-loop-event : goal.invariant-loop-event
invariant-loop-event g l = record {
  same_app : l.world.app ≡ l.fn.app;
  same_setup : l.world.setup ≡ l.setup;
  calls : l.world.calls ≡ l.event-index;
  midway : Midway (g.K.Sink.written l.fn.out) (g.K.Sink.written l.out) (report_text l.frames (g.A.App.meaning l.fn.app) l.setup l.events) (rest_text l.frames (g.A.App.meaning l.fn.app) l.world.world (drop l.event-index l.events));
  later : g.K.Sink.faults l.fn.out ≤ g.K.Sink.faults l.out;
}
