use Rattle.std.proofs.Common.{arith, ℕ, ◌≡◌, ◌+◌, ◌++◌, [], ◌∷◌, length, length-append, ap, sym, ◌∙◌}
use Rattle.std.specs.List.{range_with_len}
use Rattle.std.proofs.lemmas.List.{map-id}
use Rattle.std.proofs.lemmas.List.FromFn.{map-range_with_len_more}
use Rattle.reroute.proofs.chain.whole.Goals as goal

pub loop-n-preserved : goal.loop-n-preserved
loop-n-preserved c =
    let n = c.loop-n.n in
    let more : range_with_len 0 (n + 1) ≡ range_with_len 0 n ++ n ∷ [] =
    sym (map-id (range_with_len 0 (n + 1))) ∙ map-range_with_len_more (λ (k : ℕ). k) 0 n n (omega arith) ∙ ap (λ ns. ns ++ n ∷ []) (map-id (range_with_len 0 n)) in
    let made : c.push.new.self ≡ c.loop-n.chain ++ n ∷ [] = c.push.ensures in
    record {
      chain = made ∙ ap (λ ns. ns ++ c.loop-n.n ∷ []) c.loop-n.invariant.chain ∙ sym more;
      length = let size = length-append c.loop-n.chain (c.loop-n.n ∷ []) in omega (arith, size, ap length made, c.loop-n.invariant.length);
    }
