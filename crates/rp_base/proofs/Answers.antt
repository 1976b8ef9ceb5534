-- What a clock in memory tells grows by its answer.
use Rattle.std.proofs.Common.{◌≡◌, ℕ, suc, ◌+◌, ◌-◌, ◌^◌, min, List, [], ◌∷◌, ◌++◌, Some, None, Bool, true, false, cond, ltb, arith, refl, ap, ◌∙◌, sym}
use Rattle.std.proofs.lemmas.Bool.{ltb-true, lt-ltb, false≢true}
use Rattle.rp_base.specs.Outside.{Grows}
use Rattle.rp_base.specs.Memory.{answer_at, answers_of, told_answers}

told_grows : (t u : Bool) (xs ys more : List ℕ) → (u ≡ true → t ≡ true) → (u ≡ true → ys ≡ xs ++ more) → Grows (cond t (Some xs) None) (cond u (Some ys) None) more
told_grows true true xs ys more h k = k refl
told_grows true false xs ys more h k = tt
told_grows false true xs ys more h k = absurd (false≢true (h refl))
told_grows false false xs ys more h k = tt

pub answers_grow : (coming : List ℕ) (n m answer : ℕ) → m ≡ min (n + 1) (2 ^ 64 - 1) → answer ≡ answer_at coming n → Grows (told_answers coming n) (told_answers coming m) (answer ∷ [])
answers_grow coming n m answer next is =
    let before = λ (u : ltb m (2 ^ 64 - 1) ≡ true). let lt = ltb-true m (2 ^ 64 - 1) u in lt-ltb n (2 ^ 64 - 1) (omega arith) in
    let same = λ (u : ltb m (2 ^ 64 - 1) ≡ true).
    let lt = ltb-true m (2 ^ 64 - 1) u in
    let one : m ≡ suc n = omega arith in
    ap (answers_of coming) one ∙ ap (λ (x : ℕ). answers_of coming n ++ x ∷ []) (sym is) in
    told_grows (ltb n (2 ^ 64 - 1)) (ltb m (2 ^ 64 - 1)) (answers_of coming n) (answers_of coming m) (answer ∷ []) before same
