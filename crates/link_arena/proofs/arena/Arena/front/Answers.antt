use Rattle.std.proofs.Common.{◌∙◌}
use Rattle.link_arena.proofs.Sound.{first_seen}
use Rattle.link_arena.proofs.arena.Arena.front.Goals as goal

pub returns : goal.returns
returns g c = c.of_some.ensures ∙ first_seen c.args.which _ _ _ _ _ _ _ _ _ _ c.self.view_is c.self.invariant c.ends_of_kind.ensures c.deref.ensures.value c.deref-2.ensures.value c.requires
