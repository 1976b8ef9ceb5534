use Rattle.std.proofs.Common.{arith}
use Rattle.std.specs.Prelude.{not}
use Rattle.mirror_buf.specs.Copies.{is_of}
use Rattle.switch_flows.proofs.Seen.{small, has_room, without_seen}
use Rattle.switch_flows.proofs.Steady.{fewer}
use Rattle.switch_flows.proofs.flows.Flows.give_up.Goals as goal

pub overflow_cast-flow : goal.overflow_cast-flow
overflow_cast-flow c = let lt = small c.self.inside.rows.entries c.self.inside.copies c.self.inside.latest c.args.self.now c.self.view_is c.self.invariant c.args.flow.now.key c.args.flow.now.place c.requires in omega (arith, lt)

pub give_up-requires : goal.give_up-requires
give_up-requires c = has_room c.self.inside.rows.entries c.self.inside.copies c.self.inside.latest c.args.self.now c.self.view_is c.self.invariant c.args.flow.now.key c.args.flow.now.place c.requires

pub invariant_of-self : goal.invariant_of-self
invariant_of-self c = fewer _ _ _ c.self.invariant (λ d. not (is_of c.args.flow.now.place d)) c.give_up.new.self c.give_up.ensures

pub returns : goal.returns
returns c = without_seen c.self.inside.rows.entries c.self.inside.copies c.self.inside.latest c.args.self.now c.self.view_is c.self.invariant c.args.flow.now.key c.args.flow.now.place c.requires c.give_up.new.self c.give_up.ensures
