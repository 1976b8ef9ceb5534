use Rattle.std.proofs.Common.{sym, subst, IfSome}
use Rattle.slab.specs.Slab.{ContainsKey}
use Rattle.link_arena.specs.declared.ends.Ends.{Ends}
use Rattle.link_arena.proofs.Spots.{back_key, was_put}
use Rattle.link_arena.proofs.chain.put_last.Goals as goal

pub set_next-requires : goal.set_next-requires
set_next-requires g c =
    subst (λ (e : Ends). IfSome e.back (λ p. ContainsKey c.args.nodes.now p)) (sym c.index.ensures)
    (back_key _ _ _ _ _ c.requires.loose c.requires.there c.requires.list c.index.result.now)

pub returns : goal.returns
returns g c =
    was_put _ _ _ _ _ c.requires.loose c.requires.there c.requires.list _ _ _ _ _ c.index.ensures c.index-2.ensures
    c.set_next.ensures c.set_place.ensures c.longer.ensures
