use Rattle.std.proofs.Common.{arith}
use Rattle.switch_flows.proofs.Seen.{small, has_room, any_seen}
use Rattle.switch_flows.proofs.flows.Flows.has_copies.Goals as goal

pub overflow_cast-flow : goal.overflow_cast-flow
overflow_cast-flow c = let lt = small c.self.inside.rows.entries c.self.inside.copies c.self.inside.latest c.args.self.now c.self.view_is c.self.invariant c.args.flow.now.key c.args.flow.now.place c.requires in omega (arith, lt)

pub count-requires : goal.count-requires
count-requires c = has_room c.self.inside.rows.entries c.self.inside.copies c.self.inside.latest c.args.self.now c.self.view_is c.self.invariant c.args.flow.now.key c.args.flow.now.place c.requires

pub returns : goal.returns
returns c = any_seen c.self.inside.rows.entries c.self.inside.copies c.self.inside.latest c.args.self.now c.self.view_is c.self.invariant c.args.flow.now.key c.args.flow.now.place c.requires c.count.result c.count.ensures
