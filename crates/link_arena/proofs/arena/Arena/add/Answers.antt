use Rattle.std.proofs.Common.{ap, ◌∙◌, sym, arith, ◌≡◌}
use Rattle.link_arena.specs.Lists.{with_node}
use Rattle.link_arena.specs.declared.node.Which.{Which}
use Rattle.link_arena.proofs.Sound.{in_a, in_b, full_seen, both_seen, room_seen, free_seen, new_loose, room_a, room_b, second_loose, sound_added, seen_added}
use Rattle.link_arena.proofs.arena.Arena.add.Goals as goal

pub returns-then-len-self-clause-full : goal.returns-then-len-self-clause-full
returns-then-len-self-clause-full g c =
    let live_is = full_seen c.self.inside.nodes _ _ _ _ c.self.view_is c.self.invariant in
    let room_is = room_seen c.self.inside.nodes _ _ _ _ c.self.view_is in
    (λ e. omega (arith, live_is, room_is, c.len.ensures, c.if-len-self.true, c.self.invariant.few), λ e. search (arith))

pub returns-then-len-self-clause-both : goal.returns-then-len-self-clause-both
returns-then-len-self-clause-both g c = both_seen c.self.inside.nodes _ _ _ _ c.self.view_is c.self.invariant

pub returns-clause-both : goal.returns-clause-both
returns-clause-both g c = both_seen c.self.inside.nodes _ _ _ _ c.self.view_is c.self.invariant

pub put_last-requires-clause-loose : goal.put_last-requires-clause-loose
put_last-requires-clause-loose g c = new_loose _ _ _ _ c.insert_reserved-at.ensures.was_vacant c.insert_reserved-at.ensures.updates Which.A _ c.self.invariant.a

pub put_last-requires-clause-room : goal.put_last-requires-clause-room
put_last-requires-clause-room g c =
    room_a _ _ _ _ c.insert_reserved-at.ensures.was_vacant c.insert_reserved-at.ensures.updates _ _ _ _ c.self.invariant
    (omega (arith, c.len.ensures, c.if-len-self.false))

pub put_last-requires-2-clause-loose : goal.put_last-requires-2-clause-loose
put_last-requires-2-clause-loose g c =
    second_loose _ _ _ _ c.insert_reserved-at.ensures.was_vacant c.insert_reserved-at.ensures.updates _ _ _ _ _ _ c.self.invariant c.put_last.ensures

pub put_last-requires-2-clause-room : goal.put_last-requires-2-clause-room
put_last-requires-2-clause-room g c =
    room_b _ _ _ _ c.insert_reserved-at.ensures.was_vacant c.insert_reserved-at.ensures.updates _ _ _ _ _ _ _ c.self.invariant
    (omega (arith, c.len.ensures, c.if-len-self.false)) c.put_last.ensures

pub invariant_of-self : goal.invariant_of-self
invariant_of-self g c =
    sound_added _ _ _ _ c.insert_reserved-at.ensures.was_vacant c.insert_reserved-at.ensures.updates _ _ _ _ _ _ _ _ _ c.self.invariant
    c.insert_reserved-at.ensures.len c.insert_reserved-at.ensures.capacity c.put_last.ensures c.put_last-2.ensures
    (in_a _ _ _ _ _ _ c.self.view_is c.self.invariant.a c.requires.a) (in_b _ _ _ _ _ _ c.self.view_is c.self.invariant.b c.requires.b)
    (omega (arith, c.len.ensures, c.if-len-self.false))

pub returns-clause-full : goal.returns-clause-full
returns-clause-full g c =
    let live_is = full_seen c.self.inside.nodes _ _ _ _ c.self.view_is c.self.invariant in
    let room_is = room_seen c.self.inside.nodes _ _ _ _ c.self.view_is in
    (λ e. cc, λ e. absurd (omega (arith, e, live_is, room_is, c.len.ensures, c.if-len-self.false)))

pub returns-clause-free : goal.returns-clause-free
returns-clause-free g c = free_seen c.self.inside.nodes _ _ _ _ _ _ c.self.view_is c.insert_reserved-at.ensures.was_vacant c.of.ensures

pub returns-clause-ok : goal.returns-clause-ok
returns-clause-ok g c =
    seen_added _ _ _ _ c.insert_reserved-at.ensures.was_vacant c.insert_reserved-at.ensures.updates _ _ _ _ _ _ _ _ _ c.self.invariant
    c.insert_reserved-at.ensures.len c.insert_reserved-at.ensures.capacity c.put_last.ensures c.put_last-2.ensures
    (in_a _ _ _ _ _ _ c.self.view_is c.self.invariant.a c.requires.a) (in_b _ _ _ _ _ _ c.self.view_is c.self.invariant.b c.requires.b)
    (omega (arith, c.len.ensures, c.if-len-self.false))
    ∙ (ap (λ s. with_node s c.args.a c.args.b c.insert_reserved-at.result c.args.value) c.self.view_is
    ∙ ap (λ x. with_node c.args.self.now c.args.a c.args.b x c.args.value) (sym c.of.ensures))
