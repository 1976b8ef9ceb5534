-- The row that is found wins, and where none is found none matches.
use Rattle.std.proofs.Common.{◌≡◌, ℕ, ◌<◌, ◌≤◌, Bool, true, false, List, [], ◌∷◌, ◌++◌, Option, Some, None, refl, sym, ap, ◌∙◌, subst, if◌then◌else◌, nat_lt, arith}
use Rattle.std.specs.List.{AllByRecursion}
use Rattle.std.proofs.lemmas.Bool.{false≢true, ltb-true, ltb-false}
use Rattle.app_data.specs.declared.value.Value.{Value}
use Rattle.app_data.specs.declared.value.Match.{Match}
use Rattle.app_meaning.specs.Matches.{fits, prefix, better, winner, WhereFits, Wins}

module _ (A : Type 0) (lpm : Option ℕ) (keys : List Value) where
  abbrev Row : Type 0
  Row = List Match × A

  abbrev NoneFits : List Row → Type 0
  NoneFits rs = AllByRecursion (λ (r : Row). fits r.0 keys ≡ false) rs

  -- what a found row, or none, is among the rows
  abbrev Found : List Row → Option Row → Type 0
  Found rs None = NoneFits rs
  Found rs (Some r) = Wins lpm keys rs r

  none_above : (m : ℕ) (rs : List Row) → NoneFits rs → AllByRecursion (WhereFits keys (λ p. p ≤ m) lpm) rs
  none_above m [] h = tt
  none_above m (r ∷ rs) h = (λ f. absurd (false≢true (sym h.0 ∙ f)), none_above m rs h.1)

  shorter_below : (k m : ℕ) (rs : List Row) → k ≤ m → AllByRecursion (WhereFits keys (λ p. p < k) lpm) rs → AllByRecursion (WhereFits keys (λ p. p ≤ m) lpm) rs
  shorter_below k m [] l h = tt
  shorter_below k m (r ∷ rs) l h = (λ f. let e : prefix lpm r.0 < k = h.0 f in omega (arith, l, e), shorter_below k m rs l h.1)

  as_long_below : (k m : ℕ) (rs : List Row) → k ≤ m → AllByRecursion (WhereFits keys (λ p. p ≤ k) lpm) rs → AllByRecursion (WhereFits keys (λ p. p ≤ m) lpm) rs
  as_long_below k m [] l h = tt
  as_long_below k m (r ∷ rs) l h = (λ f. let e : prefix lpm r.0 ≤ k = h.0 f in omega (arith, l, e), as_long_below k m rs l h.1)

  joined : (P : Row → Type 0) (xs : List Row) (y : Row) (ys : List Row) → AllByRecursion P xs → P y → AllByRecursion P ys → AllByRecursion P (xs ++ y ∷ ys)
  joined P [] y ys p q r = (q, r)
  joined P (x ∷ xs) y ys p q r = (p.0, joined P xs y ys p.1 q r)

  -- the first row wins, since none behind it has a longer prefix
  first_wins : (r : Row) (rs : List Row) (s : Row) → fits r.0 keys ≡ true → Wins lpm keys rs s → prefix lpm s.0 ≤ prefix lpm r.0 → Wins lpm keys (r ∷ rs) r
  first_wins r rs s f w l = record {
    before = [];
    after = rs;
    split = refl;
    matches = f;
    longer = tt;
    longest = subst (AllByRecursion (WhereFits keys (λ p. p ≤ prefix lpm r.0) lpm)) (sym w.split)
        (joined (WhereFits keys (λ p. p ≤ prefix lpm r.0) lpm) w.before s w.after (shorter_below (prefix lpm s.0) (prefix lpm r.0) w.before l w.longer) (λ g. l) (as_long_below (prefix lpm s.0) (prefix lpm r.0) w.after l w.longest));
  }

  later_wins : (r : Row) (rs : List Row) (s : Row) → (fits r.0 keys ≡ true → prefix lpm r.0 < prefix lpm s.0) → Wins lpm keys rs s → Wins lpm keys (r ∷ rs) s
  later_wins r rs s l w = record {
    before = r ∷ w.before;
    after = w.after;
    split = ap (λ (xs : List Row). r ∷ xs) w.split;
    matches = w.matches;
    longer = (l, w.longer);
    longest = w.longest;
  }

  chosen : (r : Row) (rs : List Row) (s : Row) → fits r.0 keys ≡ true → Wins lpm keys rs s → (b : Bool) → nat_lt (prefix lpm r.0) (prefix lpm s.0) ≡ b → Found (r ∷ rs) (if b then Some s else Some r)
  chosen r rs s f w true e = later_wins r rs s (λ g. ltb-true (prefix lpm r.0) (prefix lpm s.0) e) w
  chosen r rs s f w false e = first_wins r rs s f w (ltb-false (prefix lpm r.0) (prefix lpm s.0) e)

  with_better : (r : Row) (rs : List Row) → fits r.0 keys ≡ true → (o : Option Row) → Found rs o → Found (r ∷ rs) (better lpm r o)
  with_better r rs f None h = record { before = []; after = rs; split = refl; matches = f; longer = tt; longest = none_above (prefix lpm r.0) rs h }
  with_better r rs f (Some s) h = chosen r rs s f h (nat_lt (prefix lpm r.0) (prefix lpm s.0)) refl

  skipped : (r : Row) (rs : List Row) → fits r.0 keys ≡ false → (o : Option Row) → Found rs o → Found (r ∷ rs) o
  skipped r rs f None h = (f, h)
  skipped r rs f (Some s) h = later_wins r rs s (λ g. absurd (false≢true (sym f ∙ g))) h

  step : (r : Row) (rs : List Row) (o : Option Row) → Found rs o → (b : Bool) → fits r.0 keys ≡ b → Found (r ∷ rs) (if b then better lpm r o else o)
  step r rs o h true e = with_better r rs e o h
  step r rs o h false e = skipped r rs e o h

  found : (rs : List Row) → Found rs (winner lpm keys rs)
  found [] = tt
  found (r ∷ rs) = step r rs (winner lpm keys rs) (found rs) (fits r.0 keys) refl

  pub wins : (rs : List Row) (r : Row) → winner lpm keys rs ≡ Some r → Wins lpm keys rs r
  wins rs r e = subst (Found rs) e (found rs)

  pub none_fits : (rs : List Row) → winner lpm keys rs ≡ None → NoneFits rs
  none_fits rs e = subst (Found rs) e (found rs)
