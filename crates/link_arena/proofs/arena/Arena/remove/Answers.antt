use Rattle.std.proofs.Common.{ap, ◌∙◌, subst}
use Rattle.std.specs.Prelude.{option_map, Some, ◌≡◌}
use Rattle.link_arena.specs.Lists.{without_node}
use Rattle.link_arena.specs.declared.node.Which.{Which}
use Rattle.link_arena.specs.declared.node.Node.{Node}
use Rattle.link_arena.proofs.Nodes.{order_same, same_key}
use Rattle.link_arena.proofs.Sound.{live_seen, sound_removed, seen_removed, removed_value}
use Rattle.link_arena.proofs.arena.Arena.remove.Goals as goal

pub take_off-requires-clause-there : goal.take_off-requires-clause-there
take_off-requires-clause-there g c = live_seen _ _ _ _ _ _ _ c.self.view_is c.self.invariant c.place-at.ensures c.requires

pub take_off-requires-2-clause-order : goal.take_off-requires-2-clause-order
take_off-requires-2-clause-order g c = order_same Which.B _ _ _ c.take_off.ensures.taken.rest.others c.self.invariant.b

pub take_off-requires-2-clause-there : goal.take_off-requires-2-clause-there
take_off-requires-2-clause-there g c = same_key Which.A _ _ _ c.take_off.ensures.taken.rest (live_seen _ _ _ _ _ _ _ c.self.view_is c.self.invariant c.place-at.ensures c.requires)

pub remove-node-requires : goal.remove-node-requires
remove-node-requires g c =
    same_key Which.B _ _ _ c.take_off-2.ensures.taken.rest
    (same_key Which.A _ _ _ c.take_off.ensures.taken.rest (live_seen _ _ _ _ _ _ _ c.self.view_is c.self.invariant c.place-at.ensures c.requires))

pub invariant_of-self : goal.invariant_of-self
invariant_of-self g c =
    sound_removed _ _ _ _ _ _ _ _ _ _ _ c.self.invariant c.take_off.ensures.taken c.take_off-2.ensures.taken _
    c.remove-node.ensures.updates c.remove-node.ensures.len c.remove-node.ensures.capacity

pub returns-clause-lists : goal.returns-clause-lists
returns-clause-lists g c =
    seen_removed _ _ _ _ _ _ _ _ _ _ _ c.self.invariant c.take_off.ensures.taken c.take_off-2.ensures.taken _
    c.remove-node.ensures.updates c.remove-node.ensures.len c.remove-node.ensures.capacity
    ∙ (ap (λ s. without_node s c.place-at.result) c.self.view_is ∙ ap (without_node c.args.self.now) c.place-at.ensures)

pub returns-clause-value : goal.returns-clause-value
returns-clause-value g c =
    removed_value _ _ _ _ _ _ _ _ _ _ _ c.self.invariant c.take_off.ensures.taken c.take_off-2.ensures.taken _ _ _
    c.self.view_is c.place-at.ensures c.remove-node.ensures.value
