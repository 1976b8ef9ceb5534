-- The first sending of the greatest number, when the least one is taken off.
use Rattle.std.proofs.Common.{◌≡◌, ◌≢◌, ℕ, ◌<◌, Bool, true, false, List, [], ◌∷◌, Option, Some, None, refl, sym, inl, inr, subst, arith, eq-eqb}
use Rattle.std.specs.Prelude.{⊤, ◌==◌, if◌then◌else◌, nat_le, fold, option_map}
use Rattle.std.proofs.lemmas.Bool.{cases_eq, ne_eqb}
use Rattle.link_arena.specs.Lists.{find, without, or_else}
use Rattle.mirror_buf.specs.declared.kept.Kept.{Kept}
use Rattle.mirror_buf.specs.Copies.{Named, greatest_first, first_of_greatest}
use Rattle.mirror_buf.specs.Places.{Each, Ordered, Apart}
use Rattle.mirror_buf.proofs.Listing.{without_none, each_weaker}

abbrev pub Best : Type 0
Best = Option (ℕ × ℕ)

abbrev pub first_in : Best → Option ℕ
first_in best = option_map (λ g. g.1) best

-- once there is a best one, there is always one
stays : (b : ℕ × ℕ) (cs : List Named) (o : Option ℕ) → or_else (first_in (fold greatest_first (Some b) cs)) o ≡ first_in (fold greatest_first (Some b) cs)
stays b [] o = refl
stays b (c ∷ cs) o = test_case (nat_le c.1.number b.0) (stays b cs o) (stays (c.1.number, c.1.first) cs o)
  where
    test_case : (t : Bool) → or_else (first_in (fold greatest_first (Some b) cs)) o ≡ first_in (fold greatest_first (Some b) cs) → or_else (first_in (fold greatest_first (Some (c.1.number, c.1.first)) cs)) o ≡ first_in (fold greatest_first (Some (c.1.number, c.1.first)) cs) → or_else (first_in (fold greatest_first (if t then Some b else Some (c.1.number, c.1.first)) cs)) o ≡ first_in (fold greatest_first (if t then Some b else Some (c.1.number, c.1.first)) cs)
    test_case true old other = old
    test_case false old other = other

above : (n m : ℕ) → n < m → nat_le m n ≡ false
above n m lt = grind (arith)

below : (n m : ℕ) → n < m → nat_le n m ≡ true
below n m lt = grind (arith)

-- after the least one, all others are greater
after : (k : Kept) (cs : List Named) → Each (λ d. k.number < d.1.number) cs → first_in (fold greatest_first (Some (k.number, k.first)) cs) ≡ or_else (first_in (fold greatest_first None cs)) (Some k.first)
after k [] h = refl
after k (c ∷ cs) h = let test : nat_le c.1.number k.number ≡ false = above k.number c.1.number h.0 in rw test (sym (stays (c.1.number, c.1.first) cs (Some k.first)))

abbrev pub Higher : ℕ → Best → Type 0
Higher n None = ⊤
Higher n (Some b) = n < b.0

from : (k : Kept) (id : ℕ) (best : Best) (cs : List Named) → Higher k.number best → Ordered Apart cs → find id cs ≡ Some k → Each (λ d. d.0 ≢ id → k.number < d.1.number) cs → first_in (fold greatest_first best cs) ≡ or_else (first_in (fold greatest_first best (without id cs))) (Some k.first)
from k id best [] high apart is h = cc
from k id best (c ∷ cs) high apart is h = elim (cases_eq c.0 id) [
  | inl same ↦ at same best high
  | inr differs ↦
      let found : find id cs ≡ Some k = subst (λ t. (if t then Some c.1 else find id cs) ≡ Some k) (ne_eqb c.0 id differs) is in
      on (λ b hb. from k id b cs hb apart.1 found h.1) differs best high
]
  where
    others : c.0 ≡ id → Each (λ d. d.0 ≢ id) cs
    others same = subst (λ x. Each (λ d. d.0 ≢ x) cs) same (each_weaker (Apart c) (λ d. d.0 ≢ c.0) cs (λ d ne e. ne (sym e)) apart.0)

    rest_high : (ds : List Named) → Each (λ d. d.0 ≢ id) ds → Each (λ d. d.0 ≢ id → k.number < d.1.number) ds → Each (λ d. k.number < d.1.number) ds
    rest_high [] a g = tt
    rest_high (d ∷ ds) a g = (g.0 a.0, rest_high ds a.1 g.1)

    value : c.0 ≡ id → c.1 ≡ k
    value same = some_same (subst (λ b. (if b then Some c.1 else find id cs) ≡ Some k) (eq-eqb c.0 id same) is)
      where
        some_same : Some c.1 ≡ Some k → c.1 ≡ k
        some_same e = cc

    at : c.0 ≡ id → (b : Best) → Higher k.number b → first_in (fold greatest_first (greatest_first b c) cs) ≡ or_else (first_in (fold greatest_first b (without id (c ∷ cs)))) (Some k.first)
    at same None hb =
        let test : (c.0 == id) ≡ true = eq-eqb c.0 id same in
        let rest : without id cs ≡ cs = without_none id cs (others same) in
        rw (test, rest, value same) (after k cs (rest_high cs (others same) h.1))
    at same (Some b) hb =
        let test : (c.0 == id) ≡ true = eq-eqb c.0 id same in
        let rest : without id cs ≡ cs = without_none id cs (others same) in
        let less : nat_le k.number b.0 ≡ true = below k.number b.0 hb in
        rw (test, rest, value same, less) (sym (stays b cs (Some k.first)))

    on : ((b : Best) → Higher k.number b → first_in (fold greatest_first b cs) ≡ or_else (first_in (fold greatest_first b (without id cs))) (Some k.first)) → c.0 ≢ id → (b : Best) → Higher k.number b → first_in (fold greatest_first (greatest_first b c) cs) ≡ or_else (first_in (fold greatest_first b (without id (c ∷ cs)))) (Some k.first)
    on later ne None hb =
        let test : (c.0 == id) ≡ false = ne_eqb c.0 id ne in
        rw test (later (Some (c.1.number, c.1.first)) (h.0 ne))
    on later ne (Some b) hb =
        let test : (c.0 == id) ≡ false = ne_eqb c.0 id ne in
        rw test (choice (nat_le c.1.number b.0))
      where
        choice : (t : Bool) → first_in (fold greatest_first (if t then Some b else Some (c.1.number, c.1.first)) cs) ≡ or_else (first_in (fold greatest_first (if t then Some b else Some (c.1.number, c.1.first)) (without id cs))) (Some k.first)
        choice true = later (Some b) hb
        choice false = later (Some (c.1.number, c.1.first)) (h.0 ne)

-- the least one's moment counts only where it is alone
pub without_least : (k : Kept) (id : ℕ) (cs : List Named) → Ordered Apart cs → find id cs ≡ Some k → Each (λ d. d.0 ≢ id → k.number < d.1.number) cs → first_of_greatest cs ≡ or_else (first_of_greatest (without id cs)) (Some k.first)
without_least k id cs apart is h = from k id None cs tt apart is h
