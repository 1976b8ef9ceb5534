use Rattle.world_state.proofs.HandAfter.{hand_able, hand_sendable, hand_step, hand_run, hand_calls}
use Rattle.world_state.proofs.state.WorldState.hand.Goals as goal

pub deliver-requires-clause-able : goal.deliver-requires-clause-able
deliver-requires-clause-able g c =
    let app = g.A.App.meaning c.args.app.now in
    hand_able app (g.met.A.App.promised c.args.app.now) c.args.self.now c.requires.run c.args.frame c.in_ok-msg.msg c.in_ok-msg.ensures c.requires.count

pub deliver-requires-clause-sent : goal.deliver-requires-clause-sent
deliver-requires-clause-sent g c =
    let app = g.A.App.meaning c.args.app.now in
    hand_sendable app (g.met.A.App.promised c.args.app.now) c.args.self.now c.requires.run c.args.frame c.in_ok-msg.msg c.in_ok-msg.ensures c.requires.count

pub returns-clause-step : goal.returns-clause-step
returns-clause-step g c =
    let app = g.A.App.meaning c.args.app.now in
    hand_step app (g.met.A.App.promised c.args.app.now) c.args.self.now c.requires.run c.args.frame c.in_ok-msg.msg c.in_ok-msg.ensures c.requires.count
    c.deliver.new.self c.deliver.result c.deliver.ensures

pub returns-clause-run : goal.returns-clause-run
returns-clause-run g c =
    let app = g.A.App.meaning c.args.app.now in
    hand_run app (g.met.A.App.promised c.args.app.now) c.args.self.now c.requires.run c.args.frame c.in_ok-msg.msg c.in_ok-msg.ensures c.requires.count
    c.deliver.new.self c.deliver.result c.deliver.ensures

pub returns-clause-calls : goal.returns-clause-calls
returns-clause-calls g c =
    let app = g.A.App.meaning c.args.app.now in
    hand_calls app (g.met.A.App.promised c.args.app.now) c.args.self.now c.requires.run c.args.frame c.in_ok-msg.msg c.in_ok-msg.ensures c.requires.count
    c.deliver.new.self c.deliver.result c.deliver.ensures
