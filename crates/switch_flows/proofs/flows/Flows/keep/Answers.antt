use Rattle.std.proofs.Common.{arith}
use Rattle.switch_flows.proofs.Seen.{small, has_room, below_seen, kept_seen, kept_keeps}
use Rattle.switch_flows.proofs.flows.Flows.keep.Goals as goal
use Rattle.switch_flows.proofs.flows.Flows.keep.Goals.{in-Ok, in-Err}

pub overflow_cast-kept : goal.overflow_cast-kept
overflow_cast-kept c = let lt = small c.self.inside.rows.entries c.self.inside.copies c.self.inside.latest c.args.self.now c.self.view_is c.self.invariant c.args.flow.now.key c.args.flow.now.place c.requires.place in omega (arith, lt)

pub put-requires-clause-slot : goal.put-requires-clause-slot
put-requires-clause-slot c = has_room c.self.inside.rows.entries c.self.inside.copies c.self.inside.latest c.args.self.now c.self.view_is c.self.invariant c.args.flow.now.key c.args.flow.now.place c.requires.place

pub put-requires-clause-number : goal.put-requires-clause-number
put-requires-clause-number c = below_seen c.self.inside.rows.entries c.self.inside.copies c.self.inside.latest c.args.self.now c.self.view_is c.self.invariant c.args.flow.now.key c.args.flow.now.place c.requires.place c.args.number c.requires.numbers

pub invariant_of-self : goal.invariant_of-self
invariant_of-self c = kept_keeps c.self.inside.rows.entries c.self.inside.copies c.self.inside.latest c.args.self.now c.self.view_is c.self.invariant c.args.flow.now.key c.args.flow.now.place c.requires.place c.args.number c.args.delta c.put.new.self c.put.result c.put.ensures.free c.put.ensures.ok c.put.ensures.err

pub returns : goal.returns
returns c = elim c.match-put.branch [
  | in-Ok w ↦ rw w.result-is (kept_seen c.self.inside.rows.entries c.self.inside.copies c.self.inside.latest c.args.self.now c.self.view_is c.self.invariant c.args.flow.now.key c.args.flow.now.place c.requires.place c.args.number c.args.delta w.in-Ok._id c.put.new.self w.in-Ok.ensures.ok)
  | in-Err w ↦ rw w.result-is tt
]
