use Rattle.std.proofs.Common.{ap, ◌∙◌}
use Rattle.link_arena.specs.declared.node.Link.{Link}
use Rattle.link_arena.proofs.Sound.{live_seen, next_seen}
use Rattle.link_arena.proofs.arena.Arena.next.Goals as goal

pub index-requires : goal.index-requires
index-requires g c = live_seen _ _ _ _ _ _ _ c.self.view_is c.self.invariant c.place.ensures c.requires

pub returns : goal.returns
returns g c =
    c.of_some.ensures
    ∙ (ap (λ (k : Link). k.next) c.link.ensures
    ∙ next_seen c.args.which _ _ _ _ _ _ _ _ c.self.view_is c.self.invariant c.index.ensures c.place.ensures)
