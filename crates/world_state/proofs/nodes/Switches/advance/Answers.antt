use Rattle.std.proofs.Common.{◌∙◌, arith, sym}
use Rattle.std.proofs.lemmas.List.Elements.{recursion_from_All}
use Rattle.std.specs.Prelude.{◌≤◌}
use Rattle.world_state.proofs.NodeLists.{few_there, none_later, switch_clock, switch_next}
use Rattle.world_state.proofs.nodes.Switches.advance.Goals as goal

pub loop-i-init : goal.loop-i-init
loop-i-init c = c.self.view_is ∙ sym (none_later c.args.self.now)

pub overflow_add-index_mut : goal.overflow_add-index_mut
overflow_add-index_mut c =
    let clock = switch_clock c.args.self.now c.args.by.now c.loop-i.i c.loop-i.self-inside.items.items c.index_mut.result.now c.requires.count c.loop-i-test.true c.loop-i.invariant c.index_mut.ensures.value c.requires.clocks in
    let few = few_there c.args.by.now c.loop-i.i c.loop-i-test.true (recursion_from_All (λ x. x ≤ 1000000000) c.args.by.now c.requires.advances) in
    omega (arith, clock, few)

pub loop-i-preserved : goal.loop-i-preserved
loop-i-preserved c =
    switch_next c.args.self.now c.args.by.now c.loop-i.i c.loop-i.self-inside.items.items c.index_mut.result.now c.requires.count c.loop-i-test.true c.loop-i.invariant c.index_mut.ensures.value
