use Rattle.std.proofs.Common.{ap, ◌∙◌, subst, sym}
use Rattle.link_arena.specs.Lists.{with_moved}
use Rattle.link_arena.specs.declared.node.Which.{Which}
use Rattle.link_arena.proofs.Sound.{live_seen, as_which, sound_moved_a, sound_moved_b, seen_moved_a, seen_moved_b}
use Rattle.link_arena.proofs.arena.Arena.move_to_back.Goals as goal

pub move_last-requires-clause-there : goal.move_last-requires-clause-there
move_last-requires-clause-there g c = live_seen _ _ _ _ _ _ _ c.self.view_is c.self.invariant c.place.ensures c.requires

pub invariant_of-self : goal.invariant_of-self
invariant_of-self g c = sound_moved_a _ _ _ _ _ _ _ _ c.self.invariant (as_which _ _ _ _ _ _ _ _ c.in-A.is c.move_last.ensures)

pub move_last-requires-in-B-clause-there : goal.move_last-requires-in-B-clause-there
move_last-requires-in-B-clause-there g c = live_seen _ _ _ _ _ _ _ c.self.view_is c.self.invariant c.place-in-B.ensures c.requires

pub invariant_of-self-in-B : goal.invariant_of-self-in-B
invariant_of-self-in-B g c = sound_moved_b _ _ _ _ _ _ _ _ c.self.invariant (as_which _ _ _ _ _ _ _ _ c.in-B.is c.move_last-in-B.ensures)

pub returns-in-A : goal.returns-in-A
returns-in-A g c =
    seen_moved_a _ _ _ _ _ _ _ _ c.self.invariant (as_which _ _ _ _ _ _ _ _ c.in-A.is c.move_last.ensures)
    ∙ (ap (λ s. with_moved Which.A s c.place.result) c.self.view_is
    ∙ (ap (with_moved Which.A c.args.self.now) c.place.ensures ∙ ap (λ w. with_moved w c.args.self.now c.args.id) (sym c.in-A.is)))

pub returns-in-B : goal.returns-in-B
returns-in-B g c =
    seen_moved_b _ _ _ _ _ _ _ _ c.self.invariant (as_which _ _ _ _ _ _ _ _ c.in-B.is c.move_last-in-B.ensures)
    ∙ (ap (λ s. with_moved Which.B s c.place-in-B.result) c.self.view_is
    ∙ (ap (with_moved Which.B c.args.self.now) c.place-in-B.ensures ∙ ap (λ w. with_moved w c.args.self.now c.args.id) (sym c.in-B.is)))
