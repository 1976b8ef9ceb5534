use Rattle.std.proofs.Common.{◌≡◌, ℕ, suc, ◌-◌, ◌++◌, ◌∷◌, List, length, Some, sym, ap, ◌∙◌, subst, arith}
use Rattle.std.proofs.lemmas.Grind.{common_steps}
use Rattle.std.specs.Ordering.{nat_cmp}
use Rattle.std.specs.declared.cmp.Ordering.TheVariants.{Less, Equal, Greater}
use Rattle.std.specs.Cmp.Lexicographic.{slice_cmp}
use Rattle.std.specs.Map.{lookup, keys_of}
use Rattle.match_tables.specs.Placing.{asked, Rising}
use Rattle.match_tables.specs.Standing.{is_same}
use Rattle.match_tables.proofs.Halves.{in_front, in_back, in_middle, front_sorted, back_sorted, spent_more, cost_more, parts_are}
use Rattle.match_tables.proofs.places.find.Goals as goal

pub loop-rest-preserved-in-Less : goal.loop-rest-preserved-in-Less
loop-rest-preserved-in-Less g c =
    let was = c.loop-rest.invariant in
    let rest = c.loop-rest.rest.now in
    let front = c.split_at.result.0.now in
    let e = c.in-Some.middle.now in
    let after = c.in-Some.after.now in
    let x = asked c.args.masks.now c.args.keys.now in
    let back : c.split_at.result.1.now ≡ e ∷ after = grind (arith, common_steps) in
    let whole : rest ≡ front ++ e ∷ after = parts_are rest front c.split_at.result.1.now after e _ c.split_at.ensures.front c.split_at.ensures.back back in
    let rising : Rising (keys_of (front ++ e ∷ after)) = subst (λ (r : List (List ℕ × ℕ)). Rising (keys_of r)) whole was.rises in
    let order : slice_cmp nat_cmp x e.0 ≡ Less = grind (arith, common_steps) in
    let found : lookup (is_same x) rest ≡ lookup (is_same x) front = ap (lookup (is_same x)) whole ∙ in_front x front e after rising order in
    let size : length c.split_at.result.1.now ≡ suc (length after) = ap length back in
    let one : c.tick.new.self - c.args.steps.now ≡ suc (c.loop-rest.steps - c.args.steps.now) = omega (arith, c.tick.ensures, was.later) in
    record {
      rises = front_sorted front (e ∷ after) rising;
      found = sym found ∙ was.found;
      later = omega (arith, c.tick.ensures, was.later);
      spent = spent_more (c.loop-rest.steps - c.args.steps.now) (c.tick.new.self - c.args.steps.now) (length rest) (length front) (length c.args.sorted.now) one was.spent (omega (arith, c.split_at.ensures.front_len));
      cost = cost_more (c.loop-rest.steps - c.args.steps.now) (c.tick.new.self - c.args.steps.now) (length rest) (length c.args.sorted.now) one was.spent (omega (arith, size, c.split_at.ensures.back_len));
    }

pub returns-in-Equal-clause-found : goal.returns-in-Equal-clause-found
returns-in-Equal-clause-found g c =
    let was = c.loop-rest.invariant in
    let rest = c.loop-rest.rest.now in
    let front = c.split_at.result.0.now in
    let e = c.in-Some.middle.now in
    let after = c.in-Some.after.now in
    let x = asked c.args.masks.now c.args.keys.now in
    let back : c.split_at.result.1.now ≡ e ∷ after = grind (arith, common_steps) in
    let whole : rest ≡ front ++ e ∷ after = parts_are rest front c.split_at.result.1.now after e _ c.split_at.ensures.front c.split_at.ensures.back back in
    let rising : Rising (keys_of (front ++ e ∷ after)) = subst (λ (r : List (List ℕ × ℕ)). Rising (keys_of r)) whole was.rises in
    let order : slice_cmp nat_cmp x e.0 ≡ Equal = grind (arith, common_steps) in
    let found : lookup (is_same x) rest ≡ Some e.1 = ap (lookup (is_same x)) whole ∙ in_middle x front e after rising order in
    ap (λ (n : ℕ). Some n) c.number_in.ensures ∙ sym found ∙ was.found

pub returns-in-Equal-clause-cost : goal.returns-in-Equal-clause-cost
returns-in-Equal-clause-cost g c =
    let was = c.loop-rest.invariant in
    let rest = c.loop-rest.rest.now in
    let after = c.in-Some.after.now in
    let back : c.split_at.result.1.now ≡ c.in-Some.middle.now ∷ after = grind (arith, common_steps) in
    let size : length c.split_at.result.1.now ≡ suc (length after) = ap length back in
    let one : c.tick.new.self - c.args.steps.now ≡ suc (c.loop-rest.steps - c.args.steps.now) = omega (arith, c.tick.ensures, was.later) in
    cost_more (c.loop-rest.steps - c.args.steps.now) (c.tick.new.self - c.args.steps.now) (length rest) (length c.args.sorted.now) one was.spent (omega (arith, size, c.split_at.ensures.back_len))

pub loop-rest-preserved : goal.loop-rest-preserved
loop-rest-preserved g c =
    let was = c.loop-rest.invariant in
    let rest = c.loop-rest.rest.now in
    let front = c.split_at.result.0.now in
    let e = c.in-Some.middle.now in
    let after = c.in-Some.after.now in
    let x = asked c.args.masks.now c.args.keys.now in
    let back : c.split_at.result.1.now ≡ e ∷ after = grind (arith, common_steps) in
    let whole : rest ≡ front ++ e ∷ after = parts_are rest front c.split_at.result.1.now after e _ c.split_at.ensures.front c.split_at.ensures.back back in
    let rising : Rising (keys_of (front ++ e ∷ after)) = subst (λ (r : List (List ℕ × ℕ)). Rising (keys_of r)) whole was.rises in
    let order : slice_cmp nat_cmp x e.0 ≡ Greater = grind (arith, common_steps) in
    let found : lookup (is_same x) rest ≡ lookup (is_same x) after = ap (lookup (is_same x)) whole ∙ in_back x front e after rising order in
    let size : length c.split_at.result.1.now ≡ suc (length after) = ap length back in
    let one : c.tick.new.self - c.args.steps.now ≡ suc (c.loop-rest.steps - c.args.steps.now) = omega (arith, c.tick.ensures, was.later) in
    let tail : Rising (keys_of (e ∷ after)) = back_sorted front (e ∷ after) rising in
    record {
      rises = tail.1;
      found = sym found ∙ was.found;
      later = omega (arith, c.tick.ensures, was.later);
      spent = spent_more (c.loop-rest.steps - c.args.steps.now) (c.tick.new.self - c.args.steps.now) (length rest) (length after) (length c.args.sorted.now) one was.spent (omega (arith, size, c.split_at.ensures.back_len));
      cost = cost_more (c.loop-rest.steps - c.args.steps.now) (c.tick.new.self - c.args.steps.now) (length rest) (length c.args.sorted.now) one was.spent (omega (arith, size, c.split_at.ensures.back_len));
    }
