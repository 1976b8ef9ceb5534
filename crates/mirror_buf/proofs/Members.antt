-- Each copy that is named is there.
use Rattle.std.proofs.Common.{◌≡◌, ℕ, zero, suc, ◌<◌, Bool, true, false, List, [], ◌∷◌, length, Some, refl, sym, subst, arith, map, filter, get_or, eq-eqb}
use Rattle.std.specs.Prelude.{◌==◌, if◌then◌else◌, All, IsSome, not}
use Rattle.std.proofs.lemmas.List.Elements.{All-filter, All-take}
use Rattle.link_arena.specs.Lists.{find}
use Rattle.mirror_buf.specs.Copies.{Named, Copies, is_due, is_covered, without_covered, due_ids}
use Rattle.mirror_buf.proofs.Naming.{name_of}

found_at : (cs : List Named) (i : ℕ) (d : Named) → i < length cs → IsSome (find (get_or cs i d).0 cs)
found_at [] i d lt = absurd (omega (arith, lt))
found_at (c ∷ cs) zero d lt = let test : (c.0 == c.0) ≡ true = eq-eqb c.0 c.0 refl in rw test refl
found_at (c ∷ cs) (suc i) d lt = test_case (c.0 == (get_or cs i d).0) (found_at cs i d (omega (arith, lt)))
  where
    test_case : (b : Bool) → IsSome (find (get_or cs i d).0 cs) → IsSome (if b then Some c.1 else find (get_or cs i d).0 cs)
    test_case true rest = refl
    test_case false rest = rest

all_names : (P : ℕ → Type 0) (cs : List Named) → All (λ (c : Named). P c.0) cs → All P (map name_of cs)
all_names P [] h i d lt = absurd (omega (arith, lt))
all_names P (c ∷ cs) h zero d lt = h 0 c (omega arith)
all_names P (c ∷ cs) h (suc i) d lt = all_names P cs (λ j e le. h (suc j) e (omega (arith, le))) i d (omega (arith, lt))

pub named_kept : (now age room : ℕ) (cs : List Named) → All (λ id. IsSome (find id cs)) (due_ids now age room cs)
named_kept now age room cs =
    All-take (λ id. IsSome (find id cs)) room (map name_of (filter (is_due now age) cs))
    (all_names (λ id. IsSome (find id cs)) (filter (is_due now age) cs) (All-filter (is_due now age) (λ (c : Named). IsSome (find c.0 cs)) cs (found_at cs)))

-- what holds of each copy holds after an Ack
pub acked_keeps : (P : Named → Type 0) (v w : Copies) (slot upto n : ℕ) → w ≡ without_covered v slot upto → v.slots ≡ n → All P v.copies → (w.slots ≡ n) × All P w.copies
acked_keeps P v w slot upto n is slots each =
    subst (λ (u : Copies). (u.slots ≡ n) × All P u.copies) (sym is) (slots, All-filter (λ c. not (is_covered slot upto c)) P v.copies each)
