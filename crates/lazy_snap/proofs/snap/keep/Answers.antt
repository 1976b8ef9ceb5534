use Rattle.std.proofs.Common.{sym, ap, ◌∙◌}
use Rattle.lazy_snap.specs.declared.kept.Kept.{Kept}
use Rattle.lazy_snap.proofs.Picks.{kept_before, kept_now}
use Rattle.lazy_snap.proofs.snap.keep.Goals as goal

pub returns-then-index-turn : goal.returns-then-index-turn
returns-then-index-turn c =
    sym (kept_now c.args.turn c.args.at c.args.value c.args.kept.now.items c.index.result.now c.requires (λ e. c.if-index-turn.true (ap (λ (k : Kept). k.turn) c.index.ensures ∙ e)))

pub returns-else-index-turn : goal.returns-else-index-turn
returns-else-index-turn c =
    sym (kept_before c.args.turn c.args.at c.args.value c.args.kept.now.items c.index.result.now c.requires (ap (λ (k : Kept). k.turn) (sym c.index.ensures) ∙ c.if-index-turn.false))
