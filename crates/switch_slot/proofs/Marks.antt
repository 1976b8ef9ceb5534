-- A ring's marks, by the tests of the code.
use Rattle.std.proofs.Common.{◌≡◌, ℕ, ◌+◌, ◌<◌, zero, suc, Bool, true, false, [], ◌∷◌, ◌++◌, refl, ap, length, set, get_or, take, drop, arith, sym, ◌∙◌, add-one, ◌≤◌, length-append, length-drop}
use Rattle.std.proofs.lemmas.List.{length-map, length-take}
use Rattle.std.specs.Prelude.{◌||◌, Option, if◌then◌else◌, None}
use Rattle.std.specs.List.{list_any}
use Rattle.switch_slot.specs.Rings.{emptied_place}
use Rattle.proto_model.specs.Ring.{Ring, holds, remembers, forget}

pub remembers_any : (ring : Ring) (mark : ℕ) → remembers ring mark ≡ list_any (holds mark) ring
remembers_any [] mark = refl
remembers_any (place ∷ places) mark = ap (λ rest. holds mark place || rest) (remembers_any places mark)

-- a mark that isn't there has no place to be emptied
pub forget_absent : (ring : Ring) (mark : ℕ) → remembers ring mark ≡ false → forget ring mark ≡ ring
forget_absent [] mark h = refl
forget_absent (place ∷ places) mark h = absent_case place places mark (holds mark place) (forget_absent places mark) h
  where
    absent_case : (place : Option ℕ) (places : Ring) (mark : ℕ) (b : Bool) → (remembers places mark ≡ false → forget places mark ≡ places) → (b || remembers places mark) ≡ false →
        (if b then None else place) ∷ forget places mark ≡ place ∷ places
    absent_case place places mark true rest h = absurd cc
    absent_case place places mark false rest h = ap (λ r. place ∷ r) (rest h)

-- a ring whose first places are emptied in turn
abbrev pub emptied_to : Ring → ℕ → ℕ → Ring
emptied_to ring mark i = forget (take i ring) mark ++ drop i ring

empties : (ring : Ring) (mark i : ℕ) → i < length ring → set (emptied_to ring mark i) i (emptied_place mark (get_or (emptied_to ring mark i) i None)) ≡ emptied_to ring mark (suc i)
empties [] mark i lt = absurd (omega arith)
empties (place ∷ places) mark zero lt = refl
empties (place ∷ places) mark (suc i) lt = ap (λ r. emptied_place mark place ∷ r) (empties places mark i (omega arith))

-- one more place
pub empties_next : (items new ring : Ring) (mark i : ℕ) → items ≡ emptied_to ring mark i → i < length ring → new ≡ set items i (emptied_place mark (get_or items i None)) → new ≡ emptied_to ring mark (i + 1)
empties_next items new ring mark i e lt h = h ∙ ap (λ r. set r i (emptied_place mark (get_or r i None))) e ∙ empties ring mark i lt ∙ ap (λ j. emptied_to ring mark j) (sym (add-one i))

-- a mark is in one of two parts
pub remembers_either : (xs ys : Ring) (mark : ℕ) → remembers (xs ++ ys) mark ≡ (remembers xs mark || remembers ys mark)
remembers_either [] ys mark = refl
remembers_either (place ∷ xs) ys mark = test_case (holds mark place) (remembers_either xs ys mark)
  where
    test_case : (b : Bool) → remembers (xs ++ ys) mark ≡ (remembers xs mark || remembers ys mark) → (b || remembers (xs ++ ys) mark) ≡ ((b || remembers xs mark) || remembers ys mark)
    test_case true rest = refl
    test_case false rest = rest

pub emptied_length : (ring : Ring) (mark i : ℕ) → i ≤ length ring → length (emptied_to ring mark i) ≡ length ring
emptied_length ring mark i within =
    omega (arith, length-append (forget (take i ring) mark) (drop i ring), length-map (take i ring) (emptied_place mark), length-take i ring, length-drop i ring, within)
