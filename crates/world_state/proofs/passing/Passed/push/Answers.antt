use Rattle.std.proofs.Common.{◌≡◌, ◌∙◌, ℕ, List, Bool, true, set, sym, subst}
use Rattle.std.specs.Prelude.{reverse}
use Rattle.world_state.specs.Passing.{flagged, is_passed}
use Rattle.world_state.proofs.PassedFrames.{passed_more}
use Rattle.world_state.proofs.passing.Passed.push.Goals as goal

pub invariant_of-self-2 : goal.invariant_of-self-2
invariant_of-self-2 c =
    let flags = c.grow.new.flags.items in
    record {
      flags_are = λ i. subst (λ (xs : List ℕ). flagged (set flags c.args.number true) i ≡ is_passed (reverse xs) i) (sym c.in_ok-push.ensures.items)
          (passed_more c.self.inside.order.items flags c.args.number i c.in_ok-grow.ensures.there (c.grow.ensures.same i ∙ c.self.invariant.flags_are i));
    }
