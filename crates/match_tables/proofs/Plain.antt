-- A table of plain values has one list of masks.
use Rattle.std.proofs.Common.{◌≡◌, ℕ, suc, ◌≤◌, true, false, List, [], ◌∷◌, length, Option, refl, sym, ap, ◌∙◌, arith, ◌||◌}
use Rattle.std.specs.Prelude.{All}
use Rattle.std.specs.List.{AllByRecursion, list_any}
use Rattle.std.specs.Ordering.{is_eq, nat_cmp}
use Rattle.std.specs.Cmp.Lexicographic.{slice_cmp}
use Rattle.std.proofs.lemmas.Bool.{false≢true}
use Rattle.std.proofs.lemmas.Option.{slice_get_within, get_or_from_slice_get}
use Rattle.std.proofs.lemmas.List.Elements.{All-get_or}
use Rattle.match_tables.specs.declared.entries.MatchCond.{MatchCond}
use Rattle.match_tables.specs.declared.entries.MatchKind.{MatchKind}
use Rattle.match_tables.specs.declared.entries.MatchKind.TheVariants as kind
use Rattle.match_tables.specs.Winning.{is_exact, is_ternary, masks_of}
use Rattle.match_tables.specs.Placing.{ranked, Rising}
use Rattle.match_tables.specs.Standing.{IsOfRow}
use Rattle.match_tables.proofs.Found.{same_refl}

not_ternary : (k : MatchKind) → is_exact k ≡ true → is_ternary k ≡ false
not_ternary kind.Exact e = refl
not_ternary kind.Lpm e = absurd (false≢true e)
not_ternary kind.Ternary e = absurd (false≢true e)

pub none_ternary : (keys : List (MatchKind × ℕ)) → All (λ (k : MatchKind × ℕ). is_exact k.0 ≡ true) keys → list_any (λ (k : MatchKind × ℕ). is_ternary k.0) keys ≡ false
none_ternary [] h = refl
none_ternary (k ∷ ks) h =
    let first : is_exact k.0 ≡ true = h 0 k (omega arith) in
    let rest : All (λ (k : MatchKind × ℕ). is_exact k.0 ≡ true) ks = λ i d l. h (suc i) d (omega (arith, l)) in
    λ i. not_ternary k.0 first i || none_ternary ks rest i

one_of : (lpm : Option ℕ) (whole : List ℕ) (rows : List (List MatchCond)) (ss : List (List ℕ)) → All (λ (r : List MatchCond). masks_of r ≡ whole) rows → AllByRecursion (IsOfRow lpm rows) ss → AllByRecursion (λ (s : List ℕ). s ≡ ranked lpm whole) ss
one_of lpm whole rows [] w h = tt
one_of lpm whole rows (s ∷ ss) w h =
    let masks : masks_of h.0.row ≡ whole = ap masks_of (sym (get_or_from_slice_get rows h.0.number h.0.row [] h.0.there)) ∙ All-get_or (λ (r : List MatchCond). masks_of r ≡ whole) rows h.0.number [] (slice_get_within rows h.0.number h.0.row h.0.there) w in
    (h.0.same ∙ ap (ranked lpm) masks, one_of lpm whole rows ss w h.1)

alike : (x : List ℕ) (ss : List (List ℕ)) → AllByRecursion (λ (s : List ℕ). s ≡ x) ss → Rising ss → length ss ≤ 1
alike x [] h r = omega arith
alike x (s ∷ []) h r = omega arith
alike x (s ∷ t ∷ ss) h r =
    let self : slice_cmp nat_cmp s t ≡ slice_cmp nat_cmp x x = λ i. slice_cmp nat_cmp (h.0 i) (h.1.0 i) in
    absurd (false≢true (sym (ap is_eq r.0.0) ∙ ap is_eq self ∙ same_refl x))

pub one_list : (lpm : Option ℕ) (whole : List ℕ) (rows : List (List MatchCond)) (ss : List (List ℕ)) → All (λ (r : List MatchCond). masks_of r ≡ whole) rows → AllByRecursion (IsOfRow lpm rows) ss → Rising ss → length ss ≤ 1
one_list lpm whole rows ss w h r = alike (ranked lpm whole) ss (one_of lpm whole rows ss w h) r
