use Rattle.world_state.proofs.Settled.{settled_run, settled_calls, settled_event, settled_grows, settled_step}
use Rattle.world_state.proofs.state.WorldState.on.Goals as goal

pub happens-requires-clause-run : goal.happens-requires-clause-run
happens-requires-clause-run g c = settled_run (g.A.App.meaning c.args.app.now) c.args.self.now c.settle_for.new.self c.settle_for.ensures.same c.settle_for.ensures.cursors c.requires.run

pub happens-requires-clause-event : goal.happens-requires-clause-event
happens-requires-clause-event g c = settled_event (g.A.App.meaning c.args.app.now) c.args.self.now c.settle_for.new.self c.settle_for.ensures.same c.args.e.now c.requires.event

pub happens-requires-clause-count : goal.happens-requires-clause-count
happens-requires-clause-count g c = settled_calls (g.A.App.meaning c.args.app.now) c.args.self.now c.settle_for.new.self c.settle_for.ensures.same c.requires.count

pub returns-clause-step : goal.returns-clause-step
returns-clause-step g c =
    settled_step (g.A.App.meaning c.args.app.now) c.args.self.now c.settle_for.new.self c.settle_for.ensures.same c.args.e.now c.happens.new.self c.happens.result c.happens.ensures.step

pub returns-clause-calls : goal.returns-clause-calls
returns-clause-calls g c =
    settled_grows (g.A.App.meaning c.args.app.now) c.args.self.now c.settle_for.new.self c.settle_for.ensures.same c.happens.new.self c.happens.result c.happens.ensures.calls
