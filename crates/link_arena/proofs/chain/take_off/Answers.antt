use Rattle.std.proofs.Common.{◌<◌, ◌∙◌, ap, sym, subst, arith}
use Rattle.link_arena.specs.declared.ends.Ends.{Ends}
use Rattle.link_arena.specs.Links.{edited, put_prev}
use Rattle.link_arena.proofs.Spots.{prev_key, next_key, list_within, some_there, was_taken, length_after}
use Rattle.link_arena.proofs.chain.take_off.Goals as goal

pub set_next-requires : goal.set_next-requires
set_next-requires g c = prev_key _ _ _ _ _ _ c.requires.order c.index.ensures c.link-link.ensures

pub set_prev-requires : goal.set_prev-requires
set_prev-requires g c = next_key _ _ _ _ _ _ c.requires.order c.index.ensures c.link-link.ensures _ c.set_next.ensures

pub index-requires-2 : goal.index-requires-2
index-requires-2 g c =
    let within = list_within _ _ _ _ _ _ c.requires.order c.index.ensures c.link-link.ensures in
    omega (arith, within, c.args.ends.now.ok)

pub shorter-requires : goal.shorter-requires
shorter-requires g c =
    subst (λ (e : Ends). 0 < e.count) (sym c.index-2.ensures)
    (some_there _ _ _ _ _ _ c.requires.order c.index.ensures c.link-link.ensures c.index-2.result.now)

pub index_mut-requires : goal.index_mut-requires
index_mut-requires g c =
    let within = list_within _ _ _ _ _ _ c.requires.order c.index.ensures c.link-link.ensures in
    omega (arith, within, c.args.ends.now.ok)

pub returns-clause-taken : goal.returns-clause-taken
returns-clause-taken g c =
    was_taken _ _ _ _ _ _ c.requires.order c.index.ensures c.link-link.ensures _
    (c.set_prev.ensures ∙ ap (λ s. edited c.args.which (put_prev c.link-link.result.prev) s c.link-link.result.next) c.set_next.ensures)
    _ _ c.index-2.ensures c.shorter.ensures.value

pub returns-clause-room : goal.returns-clause-room
returns-clause-room g c =
    let within = list_within _ _ _ _ _ _ c.requires.order c.index.ensures c.link-link.ensures in
    let taken =
    was_taken _ _ _ _ _ _ c.requires.order c.index.ensures c.link-link.ensures _
    (c.set_prev.ensures ∙ ap (λ s. edited c.args.which (put_prev c.link-link.result.prev) s c.link-link.result.next) c.set_next.ensures)
    _ _ c.index-2.ensures c.shorter.ensures.value in
    omega (arith, length_after _ _ _ _ _ _ _ within taken, c.shorter.ensures.few)
