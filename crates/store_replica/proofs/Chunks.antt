-- Chunks of 32 cells: none of them at first, one more, and all of them.
use Rattle.std.proofs.Common.{◌≡◌, ℕ, zero, suc, ◌+◌, ◌-◌, ◌*◌, ◌/◌, ◌<◌, ◌≤◌, List, [], ◌∷◌, length, map, Option, Some, None, true, arith, refl, sym, ◌∙◌, ap, set, length-append, min, max, subst}
use Rattle.std.specs.Prelude.{replicate, is_some}
use Rattle.std.specs.List.{list_all, concat}
use Rattle.std.proofs.lemmas.Bool.{and_parts, false≢true}
use Rattle.std.proofs.Math.Nat.{mul-div-le, lt-div-mul-add}
use Rattle.proto_model.specs.Slot.{chunk_count}
use Rattle.proto_model.specs.ReplicaState.{part_cells}
use Rattle.store_replica.specs.Gatherings.{AreChunks, HasLength}

-- ---- none is there

none_of_more : (c n : ℕ) → 32 * c < n → n ≤ 32 * c + 32 → AreChunks n (replicate (suc c) None)
none_of_more zero n low high = (omega (arith, high), tt)
none_of_more (suc c) n low high = (omega (arith, low), tt, none_of_more c (n - 32) (omega (arith, low)) (omega (arith, low, high)))

-- the number of chunks of at least one cell
record Counted (n : ℕ) : Type 0 where
  before : ℕ
  is : chunk_count n ≡ suc before
  low : 32 * before < n
  high : n ≤ 32 * before + 32

counted : (n : ℕ) → 0 < n → Counted n
counted n some =
    let q : ℕ = (n + 31) / 32 in
    let within : 32 * q ≤ n + 31 = mul-div-le (n + 31) 32 in
    let past : n + 31 < q * 32 + 32 = lt-div-mul-add {a = n + 31} {b = 32} (omega arith) in
    by q refl within past
  where
    by : (q : ℕ) → (n + 31) / 32 ≡ q → 32 * q ≤ n + 31 → n + 31 < q * 32 + 32 → Counted n
    by zero is within past = absurd (omega (arith, past, some))
    by (suc c) is within past = record { before = c; is = ap (λ k. max 1 k) is ∙ omega arith; low = omega (arith, within); high = omega (arith, past) }

pub none_there : (n : ℕ) → AreChunks n (replicate (chunk_count n) None)
none_there zero = (omega arith, tt)
none_there (suc n) =
    let c = counted (suc n) (omega arith) in
    subst (λ k. AreChunks (suc n) (replicate k None)) (sym c.is) (none_of_more c.before (suc n) c.low c.high)

-- ---- one more

-- as many cells as the chunk at this place has
abbrev pub cells_at : ℕ → ℕ → ℕ
cells_at n i = min (n - 32 * i) 32

pub one_more : (n i : ℕ) (parts : List (Option (List ℕ))) (cells : List ℕ) → AreChunks n parts → length cells ≡ cells_at n i → AreChunks n (set parts i (Some cells))
one_more n i [] cells h is = absurd h
one_more n zero (p ∷ []) cells h is = (h.0, omega (arith, is, h.0))
one_more n (suc i) (p ∷ []) cells h is = h
one_more n zero (p ∷ q ∷ ps) cells h is = (h.0, omega (arith, is, h.0), h.2)
one_more n (suc zero) (p ∷ q ∷ ps) cells h is = (h.0, h.1, one_more (n - 32) zero (q ∷ ps) cells h.2 (is ∙ omega arith))
one_more n (suc (suc i)) (p ∷ q ∷ ps) cells h is = (h.0, h.1, one_more (n - 32) (suc i) (q ∷ ps) cells h.2 (is ∙ omega arith))

-- ---- all

there : (n : ℕ) (p : Option (List ℕ)) → is_some p ≡ true → HasLength n p → length (part_cells p) ≡ n
there n None some h = absurd (false≢true some)
there n (Some cells) some h = h

pub all_there : (n : ℕ) (parts : List (Option (List ℕ))) → list_all (λ p. is_some p) parts ≡ true → AreChunks n parts → length (concat (map part_cells parts)) ≡ n
all_there n [] all h = absurd h
all_there n (p ∷ []) all h = length-append (part_cells p) [] ∙ omega (arith, there n p (and_parts _ _ all).0 h.1)
all_there n (p ∷ q ∷ ps) all h =
    length-append (part_cells p) (concat (map part_cells (q ∷ ps)))
    ∙ omega (arith, h.0, there 32 p (and_parts _ _ all).0 h.1, all_there (n - 32) (q ∷ ps) (and_parts _ _ all).1 h.2)
