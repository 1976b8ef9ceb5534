use Rattle.std.proofs.Common.{refl, ap, ◌∙◌, subst, sym}
use Rattle.link_arena.specs.Lists.{with_value}
use Rattle.link_arena.proofs.Sound.{live_seen, value_seen, sound_written, seen_written}
use Rattle.link_arena.proofs.arena.Arena.get_mut.Goals as goal

pub index_mut-requires : goal.index_mut-requires
index_mut-requires g c = live_seen _ _ _ _ _ _ _ c.self.view_is c.self.invariant c.place.ensures c.requires

pub invariant_of-self-lent : goal.invariant_of-self-lent
invariant_of-self-lent g c = λ w. sound_written _ _ _ _ _ _ w c.self.invariant c.index_mut.ensures.value

pub returns : goal.returns
returns g c = (
  (refl, λ w. seen_written _ _ _ _ _ _ w c.self.invariant c.index_mut.ensures.value ∙ (ap (λ s. with_value s c.place.result w) c.self.view_is ∙ ap (λ x. with_value c.args.self.now x w) c.place.ensures)),
  record { lends = tt; value = (value_seen _ _ _ _ _ _ _ _ c.self.view_is c.self.invariant c.index_mut.ensures.value c.place.ensures).0 },
)
