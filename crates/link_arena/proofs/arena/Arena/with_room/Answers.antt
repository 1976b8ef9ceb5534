use Rattle.std.proofs.Common.{◌∙◌}
use Rattle.link_arena.proofs.Sound.{sound_none, seen_none, sound_as, seen_both}
use Rattle.link_arena.proofs.arena.Arena.with_room.Goals as goal

pub invariant_of-result : goal.invariant_of-result
invariant_of-result g c =
    sound_as _ _ _ _ _ _ (c.in_ok-lists_a.ensures.items_if_clones_equal (λ y e. e)) (c.in_ok-lists_b.ensures.items_if_clones_equal (λ y e. e))
    (sound_none _ c.in_ok-with_capacity.ensures.empty _ _ _ c.in_ok-with_capacity.ensures.capacity c.ranges.room.fits)

pub returns : goal.returns
returns g c =
    seen_both c.in_ok-with_capacity.field-0 _ _ _ _ _ (c.in_ok-lists_a.ensures.items_if_clones_equal (λ y e. e)) (c.in_ok-lists_b.ensures.items_if_clones_equal (λ y e. e))
    ∙ seen_none c.in_ok-with_capacity.field-0 c.in_ok-with_capacity.ensures.empty _ _ _
