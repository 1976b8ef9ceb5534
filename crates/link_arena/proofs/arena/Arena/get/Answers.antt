use Rattle.std.proofs.Common.{subst, sym, ◌∙◌}
use Rattle.link_arena.proofs.Sound.{live_seen, value_seen}
use Rattle.link_arena.proofs.arena.Arena.get.Goals as goal

pub index-requires : goal.index-requires
index-requires g c = live_seen _ _ _ _ _ _ _ c.self.view_is c.self.invariant c.place.ensures c.requires

pub returns-clause-a : goal.returns-clause-a
returns-clause-a g c = (value_seen _ _ _ _ _ _ _ _ c.self.view_is c.self.invariant c.index.ensures c.place.ensures).0

pub returns-clause-b : goal.returns-clause-b
returns-clause-b g c = (value_seen _ _ _ _ _ _ _ _ c.self.view_is c.self.invariant c.index.ensures c.place.ensures).1
