use Rattle.link_arena.proofs.Spots.{was_moved}
use Rattle.link_arena.proofs.chain.move_last.Goals as goal

pub returns : goal.returns
returns g c = was_moved _ _ _ _ _ _ _ _ _ c.take_off-list.ensures.taken c.put_last.ensures
