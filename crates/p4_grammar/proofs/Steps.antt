-- Loops that change a state.
use Rattle.std.proofs.Common.{◌≡◌, ℕ, zero, suc, ◌+◌, ◌≤◌, length, arith, Bool, true, false, List, [], ◌∷◌, ◌++◌, refl, sym, subst, inr}
use Rattle.p4_lex.specs.declared.token.Token.{Token}
use Rattle.p4_grammar.specs.Forms.{Lang, none, only, bind, Reader, done_at, bind_at, hand, steps, steps_at, Spells}
use Rattle.p4_grammar.proofs.Forms.{IsEnd, Reads, done-reads, either-reads, fits, fewer, shifted-reads, stuck-reads}
use Rattle.p4_grammar.proofs.Basics.{free, is_free, Begins, begins_bind, some_by, any-reads}

hand_end : (t : Token → Bool) (m : List Token) → IsEnd t m → hand t m ≡ false
hand_end t [] e = refl
hand_end t (a ∷ m) e = e

module _ {S : Type 0} (n : ℕ) (t : Token → Bool) (L : S → Lang S) (p : S → Reader S) (h : (s : S) → Reads n (L s) (L s) free (p s)) (begins : (s : S) → Begins true t (L s)) where
  long : (c : ℕ) (s r : S) (u : List Token) → L s r u → suc c ≤ length u + c
  long c s r u d = let one : 1 ≤ length u = some_by t u ((begins s).at r u [] d) in omega arith

  step-reads : (c k : ℕ) (s : S) → suc c ≤ n → ((r : S) → Reads c (steps k L r) (steps (suc c) L r) (λ r. t) (steps_at c t p r)) → Reads (suc c) (steps (suc k) L s) (steps (suc (suc c)) L s) (λ r. t) (steps_at (suc c) t p s)
  step-reads c k s le ih = either-reads (suc c) t (bind (L s) λ r. steps k L r) (bind (L s) λ r. steps (suc c) L r) (λ r. t) (bind_at (p s) λ r. steps_at c t p r) (only s) (only s) (done_at s)
      (shifted-reads (suc c) c (L s) (L s) free (p s) (λ r. steps k L r) (λ r. steps (suc c) L r) (λ r. t) (λ r. steps_at c t p r) (fewer (suc c) n (L s) (L s) free (p s) le (h s)) ih (long c s) (λ x y v m d end. is_free (v ++ m)))
      (done-reads (suc c) (λ r. t) s)
      (begins_bind (begins s)).at
      (λ r u m d end. subst (λ (q : List Token). hand t (q ++ m) ≡ false) (sym d.1) (hand_end t m end))

  bounded-reads : (c k : ℕ) (s : S) → c ≤ n → Reads c (steps k L s) (steps (suc c) L s) (λ r. t) (steps_at c t p s)
  bounded-reads zero k s le = stuck-reads (steps k L s) (steps 1 L s) (λ r. t) s [] (inr (refl, refl))
  bounded-reads (suc c) zero s le = fits (suc c) (steps 1 L s) (steps (suc (suc c)) L s) none (steps (suc (suc c)) L s) (λ r. t) (λ r. t) (steps_at (suc c) t p s) (step-reads c 0 s le (λ r. bounded-reads c 0 r (omega arith))) (λ x u d. absurd d) (λ x u d. d) (λ x m end. end)
  bounded-reads (suc c) (suc k) s le = step-reads c k s le (λ r. bounded-reads c k r (omega arith))

  pub steps-reads : (s : S) → Reads n (Spells (λ k. steps k L s)) (Spells (λ k. steps k L s)) (λ r. t) (steps_at n t p s)
  steps-reads s = any-reads (suc n) (λ k. bounded-reads n k s (omega arith))
