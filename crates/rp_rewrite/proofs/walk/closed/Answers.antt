use Rattle.std.proofs.Common.{◌≡◌, ◌∷◌, ◌++◌, [], sym, ap, ◌∙◌}
use Rattle.p4_check.specs.Rewriting.{held_only}
use Rattle.rp_rewrite.specs.Sources.{closed}
use Rattle.rp_rewrite.proofs.Pieces.{closed_last}
use Rattle.rp_rewrite.proofs.walk.closed.Goals as goal

pub loop-before-preserved : goal.loop-before-preserved
loop-before-preserved c =
    let outer : c.loop-before.outer ≡ c.pop.new.self ++ c.in-Some.before ∷ [] = c.in-Some.ensures in
    let made : c.push_held_only.new.into ≡ c.in-Some.before ++ held_only c.loop-before.made ∷ [] = c.in_ok-push_held_only.ensures in
    ap (closed c.pop.new.self) made ∙ sym (closed_last c.pop.new.self c.in-Some.before c.loop-before.made)
    ∙ ap (λ os. closed os c.loop-before.made) (sym outer) ∙ c.loop-before.invariant
