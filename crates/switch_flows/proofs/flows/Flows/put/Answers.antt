use Rattle.switch_flows.proofs.Seen.{here, put_seen, put_keeps}
use Rattle.switch_flows.proofs.flows.Flows.put.Goals as goal

pub index_mut-requires : goal.index_mut-requires
index_mut-requires c = here c.self.inside.rows.entries c.self.inside.copies c.self.inside.latest c.args.self.now c.self.view_is c.args.flow.now.key c.args.flow.now.place c.requires.place

pub invariant_of-self : goal.invariant_of-self
invariant_of-self c = put_keeps c.self.inside.rows.entries c.self.inside.copies c.self.inside.latest c.args.self.now c.self.view_is c.args.flow.now.key c.args.flow.now.place c.args.slot c.requires.place c.self.invariant

pub returns : goal.returns
returns c = put_seen c.self.inside.rows.entries c.self.inside.copies c.self.inside.latest c.args.self.now c.self.view_is c.args.flow.now.key c.args.flow.now.place c.args.slot c.requires.place c.requires.seen
