use Rattle.std.proofs.Common.{◌∙◌, ◌++◌, ◌∷◌, [], ℕ, sym, arith}
use Rattle.std.proofs.lemmas.List.FromFn.{map-range_with_len_more}
use Rattle.world_state.specs.Nodes.{begun_switch}
use Rattle.world_state.proofs.opening.open_switches.Goals as goal

pub loop-n-preserved : goal.loop-n-preserved
loop-n-preserved c =
    let n = c.loop-n.n in
    c.in_ok-push.ensures
    ∙ (λ i. c.loop-n.invariant i ++ c.in_ok-begun.ensures i ∷ [])
    ∙ sym (map-range_with_len_more (λ (k : ℕ). begun_switch 0 k 1 c.args.cells c.args.terms.now c.args.config.now) 0 n n (omega arith))
