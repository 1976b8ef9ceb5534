use Rattle.std.proofs.Common.{◌∙◌, ◌≤◌, sym, subst, arith, IfSome}
use Rattle.std.specs.Prelude.{not}
use Rattle.mirror_buf.specs.Copies.{is_covered}
use Rattle.switch_flows.specs.States.{FlowsAt}
use Rattle.switch_flows.proofs.Seen.{small, has_room, acked_seen, greatest_seen}
use Rattle.switch_flows.proofs.Steady.{fewer}
use Rattle.switch_flows.proofs.Tied.{greatest_past}
use Rattle.switch_flows.proofs.flows.Flows.acknowledge.Goals as goal

pub overflow_cast-flow : goal.overflow_cast-flow
overflow_cast-flow c = let lt = small c.self.inside.rows.entries c.self.inside.copies c.self.inside.latest c.args.self.now c.self.view_is c.self.invariant c.args.flow.now.key c.args.flow.now.place c.requires in omega (arith, lt)

pub acked-requires : goal.acked-requires
acked-requires c = has_room c.self.inside.rows.entries c.self.inside.copies c.self.inside.latest c.args.self.now c.self.view_is c.self.invariant c.args.flow.now.key c.args.flow.now.place c.requires

pub invariant_of-self : goal.invariant_of-self
invariant_of-self c = fewer _ _ _ c.self.invariant (λ d. not (is_covered c.args.flow.now.place c.args.upto d)) c.acked.new.self c.acked.ensures.copies

pub returns-clause-first : goal.returns-clause-first
returns-clause-first c = c.acked.ensures.first ∙ greatest_seen c.self.inside.rows.entries c.self.inside.copies c.self.inside.latest c.args.self.now c.self.view_is c.self.invariant c.args.flow.now.key c.args.flow.now.place c.requires c.args.upto

pub returns-clause-past : goal.returns-clause-past
returns-clause-past c =
    let past = greatest_past c.self.inside.latest (is_covered c.args.flow.now.place c.args.upto) c.self.inside.copies.copies c.self.invariant.first in
    subst (λ (t : FlowsAt). IfSome c.acked.result (λ moment. moment ≤ t.latest)) c.self.view_is
    (subst (λ o. IfSome o (λ moment. moment ≤ c.self.inside.latest)) (sym c.acked.ensures.first) past)

pub returns-clause-copies : goal.returns-clause-copies
returns-clause-copies c = acked_seen c.self.inside.rows.entries c.self.inside.copies c.self.inside.latest c.args.self.now c.self.view_is c.self.invariant c.args.flow.now.key c.args.flow.now.place c.requires c.args.upto c.acked.new.self c.acked.ensures.copies
