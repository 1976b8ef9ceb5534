-- The search among the sorted entries finds the entry that wins.
use Rattle.std.proofs.Common.{◌≡◌, ℕ, suc, ◌+◌, ◌-◌, ◌<◌, ◌≤◌, ◌^◌, Bool, true, false, cond, List, [], ◌∷◌, length, Option, Some, None, refl, sym, ap, ◌∙◌, nat_lt, arith, ◌==◌, ◌||◌}
use Rattle.std.specs.Prelude.{slice_get, option_map, All}
use Rattle.std.specs.List.{AllByRecursion, list_any}
use Rattle.std.specs.Ordering.{nat_cmp, ordering_then}
use Rattle.std.specs.declared.cmp.Ordering.{Ordering}
use Rattle.std.specs.declared.cmp.Ordering.TheVariants.{Less, Equal, Greater}
use Rattle.std.specs.Cmp.Lexicographic.{slice_cmp}
use Rattle.std.specs.Map.{lookup}
use Rattle.std.proofs.lemmas.Bool.{false≢true, ltb-true, eqb-true}
use Rattle.std.proofs.lemmas.Option.{slice_get_within, get_or_from_slice_get}
use Rattle.std.proofs.lemmas.List.Elements.{All-get_or}
use Rattle.match_tables.specs.declared.entries.MatchCond.{MatchCond}
use Rattle.match_tables.specs.declared.places.Places.{Places}
use Rattle.match_tables.specs.Winning.{fits, masks_of, prefix_of, prefix, winner, numbered, number_of}
use Rattle.match_tables.specs.Placing.{spelled, asked, ranked, rank, behind, Best, searched, Rising}
use Rattle.match_tables.specs.Standing.{is_same, IsOfRow, IsPlaced}
use Rattle.match_tables.proofs.Winners.{Wins, Found, found}
use Rattle.match_tables.proofs.Found.{same_is, asked_fits, fits_asked, At, first_there, Before, first_before, Rises, Below, OfBest, each_below, of_found}

first_le : (p q : ℕ) (o : Ordering) → (b : Bool) → nat_lt p q ≡ b → (c : Bool) → (p == q) ≡ c → ordering_then (cond b Less (cond c Equal Greater)) o ≡ Less → p ≤ q
first_le p q o true e c f l = let k : p < q = ltb-true p q e in omega (arith, k)
first_le p q o false e true f l = let k : p ≡ q = eqb-true p q f in omega (arith, k)
first_le p q o false e false f l = absurd (greater_less l)
  where
    is_less : Ordering → Bool
    is_less Less = true
    is_less Equal = false
    is_less Greater = false

    greater_less : Greater ≡ Less → ⊥
    greater_less l = absurd (false≢true (ap is_less l))

rank_le : (s t : List ℕ) → slice_cmp nat_cmp s t ≡ Less → rank s ≤ rank t
rank_le [] t l = omega arith
rank_le (p ∷ ps) [] l = absurd (greater_less l)
  where
    is_less : Ordering → Bool
    is_less Less = true
    is_less Equal = false
    is_less Greater = false

    greater_less : Greater ≡ Less → ⊥
    greater_less l = absurd (false≢true (ap is_less l))
rank_le (p ∷ ps) (q ∷ qs) l = first_le p q (slice_cmp nat_cmp ps qs) (nat_lt p q) refl (p == q) refl l

ranks_le : (s : List ℕ) (ss : List (List ℕ)) → AllByRecursion (λ (t : List ℕ). slice_cmp nat_cmp s t ≡ Less) ss → AllByRecursion (λ (t : List ℕ). rank s ≤ rank t) ss
ranks_le s [] h = tt
ranks_le s (t ∷ ts) h = (rank_le s t h.0, ranks_le s ts h.1)

rises : (ss : List (List ℕ)) → Rising ss → Rises ss
rises [] h = tt
rises (s ∷ ss) h = (ranks_le s ss h.0, rises ss h.1)

record Member (t : List ℕ) (ss : List (List ℕ)) : Type 0 where
  pub place : ℕ
  pub there : slice_get ss place ≡ Some t

member : (t : List ℕ) (ss : List (List ℕ)) → list_any (is_same t) ss ≡ true → Member t ss
member t [] e = absurd (false≢true e)
member t (s ∷ ss) e = by (member t ss) (is_same t s) refl e
  where
    by : (list_any (is_same t) ss ≡ true → Member t ss) → (b : Bool) → is_same t s ≡ b → (b || list_any (is_same t) ss) ≡ true → Member t (s ∷ ss)
    by more true f e = record { place = 0; there = ap (λ (x : List ℕ). Some x) (sym (same_is t s f)) }
    by more false f e = let m : Member t ss = more e in record { place = suc m.place; there = m.there }

long_at : (n : ℕ) (rows : List (List MatchCond)) (i : ℕ) (r : List MatchCond) → All (λ (r : List MatchCond). length r ≡ n) rows → slice_get rows i ≡ Some r → length r ≡ n
long_at n rows i r h e = ap length (sym (get_or_from_slice_get rows i r [] e)) ∙ All-get_or (λ (r : List MatchCond). length r ≡ n) rows i [] (slice_get_within rows i r e) h

module _ (lpm : Option ℕ) (keys : List ℕ) (rows : List (List MatchCond)) (p : Places) (placed : IsPlaced lpm rows p) (long : All (λ (r : List MatchCond). length r ≡ length keys) rows) where
  abbrev find : List ℕ → Option ℕ
  find x = lookup (is_same x) p.sorted

  -- a row that matches has this number, and its prefix this rank
  record Matches (q n : ℕ) : Type 0 where
    pub row : List MatchCond
    pub there : slice_get rows n ≡ Some row
    pub matches : fits row keys ≡ true
    pub ranks : q ≡ 2 ^ 128 - 1 - prefix lpm row
    pub bounded : prefix lpm row < 2 ^ 128

  matching : (s : List ℕ) (n : ℕ) → IsOfRow lpm rows s → find (asked (behind s) keys) ≡ Some n → Matches (rank s) n
  matching s n of f =
      let masks : behind s ≡ masks_of of.row = ap behind of.same in
      let at : At (asked (behind s) keys) 0 rows n = first_there (asked (behind s) keys) 0 rows n (sym (placed.finds (asked (behind s) keys)) ∙ f) in
      let none : n - 0 ≡ n = omega arith in
      let there : slice_get rows n ≡ Some at.row = ap (slice_get rows) (sym none) ∙ at.there in
      let long_row : length at.row ≡ length keys = long_at (length keys) rows n at.row long there in
      let long_of : length of.row ≡ length keys = long_at (length keys) rows of.number of.row long of.there in
      let as_long : length (behind s) ≡ length at.row = ap length masks ∙ length_masks of.row ∙ long_of ∙ sym long_row in
      let both : (masks_of at.row ≡ behind s) × (fits at.row keys ≡ true) = fits_asked at.row (behind s) keys as_long long_row at.same in
      record {
        row = at.row;
        there = there;
        matches = both.1;
        ranks = ap rank of.same ∙ ap (λ (ms : List ℕ). 2 ^ 128 - 1 - prefix_of lpm ms) (sym masks ∙ sym both.0);
        bounded = placed.bounded n at.row there;
      }
    where
      length_masks : (row : List MatchCond) → length (masks_of row) ≡ length row
      length_masks [] = refl
      length_masks (m ∷ ms) = ap suc (length_masks ms)

  all_match : (ss : List (List ℕ)) → AllByRecursion (IsOfRow lpm rows) ss → AllByRecursion (λ (s : List ℕ). (n : ℕ) → find (asked (behind s) keys) ≡ Some n → Matches (rank s) n) ss
  all_match [] h = tt
  all_match (s ∷ ss) h = (λ n f. matching s n h.0 f, all_match ss h.1)

  of_search : OfBest Matches (searched find keys None p.masks)
  of_search = of_found find keys Matches None p.masks tt (rises p.masks placed.ordered) tt (all_match p.masks placed.only)

  none_matches : (o : Best) → OfBest Matches o → ((m : ℕ) (s : List MatchCond) → slice_get rows m ≡ Some s → fits s keys ≡ false) → None ≡ option_map (λ (b : ℕ × ℕ). b.1) o
  none_matches None h none = refl
  none_matches (Some b) h none = absurd (false≢true (sym (none b.1 h.row h.there) ∙ h.matches))

  least : (r : List MatchCond) (n k : ℕ) → Wins lpm keys 0 rows r n → k ≤ n → prefix lpm r < 2 ^ 128 → (o : Best) → OfBest Matches o → Below o (2 ^ 128 - 1 - prefix lpm r) k → Some n ≡ option_map (λ (b : ℕ × ℕ). b.1) o
  least r n k w l bounded None h below = absurd below
  least r n k w l bounded (Some b) h below =
      let no_longer : prefix lpm h.row ≤ prefix lpm r = w.best b.1 h.row h.there h.matches in
      let ranks : b.0 ≡ 2 ^ 128 - 1 - prefix lpm h.row = h.ranks in
      let before : b.0 ≤ 2 ^ 128 - 1 - prefix lpm r = below.0 in
      let same_rank : b.0 ≡ 2 ^ 128 - 1 - prefix lpm r = omega (arith, no_longer, ranks, before) in
      let same_prefix : prefix lpm h.row ≡ prefix lpm r = omega (arith, no_longer, ranks, same_rank, bounded) in
      let early : b.1 ≤ k = below.1 same_rank in
      let first : n ≤ b.1 + 0 = w.first b.1 h.row h.there h.matches same_prefix in
      let is : n ≡ b.1 = omega (arith, early, l, first) in
      ap (λ (x : ℕ). Some x) is

  won : (w : Option (List MatchCond × ℕ)) → Found lpm keys 0 rows w → number_of w ≡ option_map (λ (b : ℕ × ℕ). b.1) (searched find keys None p.masks)
  won None none = none_matches (searched find keys None p.masks) of_search none
  won (Some w) h =
      let no_less : w.1 - 0 ≡ w.1 = omega arith in
      let there : slice_get rows w.1 ≡ Some w.0 = ap (slice_get rows) (sym no_less) ∙ h.there in
      let long_row : length w.0 ≡ length keys = long_at (length keys) rows w.1 w.0 long there in
      let same : asked (masks_of w.0) keys ≡ spelled w.0 = asked_fits w.0 keys (omega (arith, long_row)) h.matches in
      let before : Before (asked (masks_of w.0) keys) 0 rows w.1 = first_before (asked (masks_of w.0) keys) 0 rows w.1 w.0 there (sym same) in
      let early : before.number ≤ w.1 + 0 = before.early in
      let at : Member (ranked lpm (masks_of w.0)) p.masks = member (ranked lpm (masks_of w.0)) p.masks (placed.every w.1 w.0 there) in
      let below : Below (searched find keys None p.masks) (2 ^ 128 - 1 - prefix lpm w.0) before.number = each_below find keys None p.masks at.place (ranked lpm (masks_of w.0)) before.number tt (rises p.masks placed.ordered) at.there (placed.finds (asked (masks_of w.0) keys) ∙ before.found) in
      least w.0 w.1 before.number h (omega (arith, early)) (placed.bounded w.1 w.0 there) (searched find keys None p.masks) of_search below

  pub looked : number_of (winner lpm keys (numbered 0 rows)) ≡ option_map (λ (b : ℕ × ℕ). b.1) (searched (λ x. lookup (is_same x) p.sorted) keys None p.masks)
  looked = won (winner lpm keys (numbered 0 rows)) (found lpm keys 0 rows)
