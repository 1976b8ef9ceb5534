use Rattle.std.proofs.Common.{sym, subst}
use Rattle.std.specs.List.{AllByRecursion}
use Rattle.proto_model.specs.WorldStep.{Act}
use Rattle.sent_frames.specs.Frames.{IsSendable}
use Rattle.world_state.specs.Steps.{CanDo, goes}
use Rattle.world_state.proofs.RunAfter.{counted, event_able, event_can, event_sendable, event_step, event_run, event_calls}
use Rattle.world_state.proofs.state.WorldState.happens.Goals as goal

pub perform-requires-clause-able : goal.perform-requires-clause-able
perform-requires-clause-able g c =
    let app = g.A.App.meaning c.args.app.now in
    event_able app (g.met.A.App.promised c.args.app.now) c.args.self.now c.requires.run c.args.e.now c.requires.event c.requires.sized c.requires.count

pub perform-requires-clause-can : goal.perform-requires-clause-can
perform-requires-clause-can g c =
    let app = g.A.App.meaning c.args.app.now in
    subst (CanDo (counted c.args.self.now)) (sym c.in_ok-act.ensures)
    (event_can app (g.met.A.App.promised c.args.app.now) c.args.self.now c.requires.run c.args.e.now c.requires.event c.requires.sized c.requires.count)

pub perform-requires-clause-sent : goal.perform-requires-clause-sent
perform-requires-clause-sent g c =
    let app = g.A.App.meaning c.args.app.now in
    subst (λ (a : Act). AllByRecursion IsSendable (goes app (counted c.args.self.now) a).0.frames) (sym c.in_ok-act.ensures)
    (event_sendable app (g.met.A.App.promised c.args.app.now) c.args.self.now c.requires.run c.args.e.now c.requires.event c.requires.sized c.requires.count)

pub returns-clause-step : goal.returns-clause-step
returns-clause-step g c =
    let app = g.A.App.meaning c.args.app.now in
    event_step app (g.met.A.App.promised c.args.app.now) c.args.self.now c.requires.run c.args.e.now c.requires.event c.requires.sized c.requires.count
    c.in_ok-act.act c.in_ok-act.ensures c.perform.new.self c.perform.result c.perform.ensures

pub returns-clause-run : goal.returns-clause-run
returns-clause-run g c =
    let app = g.A.App.meaning c.args.app.now in
    event_run app (g.met.A.App.promised c.args.app.now) c.args.self.now c.requires.run c.args.e.now c.requires.event c.requires.sized c.requires.count
    c.in_ok-act.act c.in_ok-act.ensures c.perform.new.self c.perform.result c.perform.ensures

pub returns-clause-calls : goal.returns-clause-calls
returns-clause-calls g c =
    let app = g.A.App.meaning c.args.app.now in
    event_calls app (g.met.A.App.promised c.args.app.now) c.args.self.now c.requires.run c.args.e.now c.requires.event c.requires.sized c.requires.count
    c.in_ok-act.act c.in_ok-act.ensures c.perform.new.self c.perform.result c.perform.ensures
