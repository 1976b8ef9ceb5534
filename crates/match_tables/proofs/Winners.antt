-- What the winning entry is among the numbered ones.
use Rattle.std.proofs.Common.{◌≡◌, ℕ, zero, suc, ◌+◌, ◌-◌, ◌<◌, ◌≤◌, Bool, true, false, List, [], ◌∷◌, Option, Some, None, refl, sym, ap, ◌∙◌, subst, if◌then◌else◌, nat_lt, arith}
use Rattle.std.specs.Prelude.{slice_get, is_some}
use Rattle.std.proofs.lemmas.Bool.{false≢true, ltb-true, ltb-false}
use Rattle.match_tables.specs.declared.entries.MatchCond.{MatchCond}
use Rattle.match_tables.specs.Winning.{fits, prefix, better, winner, numbered}

-- what is there isn't missing
pub gone : {X Y : Type 0} {x : X} → None ≡ Some x → Y
gone e = absurd (false≢true (ap is_some e))

abbrev or_this : {X : Type 0} → X → Option X → X
or_this d None = d
or_this d (Some x) = x

-- what is there is one
pub some_is : {X : Type 0} (x y : X) → Some x ≡ Some y → x ≡ y
some_is x y e = ap (or_this x) e

module _ (lpm : Option ℕ) (keys : List ℕ) where
  abbrev pub Row : Type 0
  Row = List MatchCond

  -- a row has this number among those that are numbered from `i` on, matches, and no other one goes before it
  pub record Wins (i : ℕ) (rs : List Row) (r : Row) (n : ℕ) : Type 0 where
    pub from : i ≤ n
    pub there : slice_get rs (n - i) ≡ Some r
    pub matches : fits r keys ≡ true
    pub best : (m : ℕ) (s : Row) → slice_get rs m ≡ Some s → fits s keys ≡ true → prefix lpm s ≤ prefix lpm r
    pub first : (m : ℕ) (s : Row) → slice_get rs m ≡ Some s → fits s keys ≡ true → prefix lpm s ≡ prefix lpm r → n ≤ m + i

  abbrev pub Found : ℕ → List Row → Option (Row × ℕ) → Type 0
  Found i rs None = (m : ℕ) (s : Row) → slice_get rs m ≡ Some s → fits s keys ≡ false
  Found i rs (Some w) = Wins i rs w.0 w.1

  misfit : {Y : Type 0} (s : Row) → fits s keys ≡ false → fits s keys ≡ true → Y
  misfit s f t = absurd (false≢true (sym f ∙ t))

  later_there : (i n : ℕ) (r : Row) (rs : List Row) (w : Row) → suc i ≤ n → slice_get rs (n - suc i) ≡ Some w → slice_get (r ∷ rs) (n - i) ≡ Some w
  later_there i n r rs w l e =
      let one : n - i ≡ suc (n - suc i) = omega (arith, l) in
      ap (slice_get (r ∷ rs)) one ∙ e

  -- a row behind the first wins, where the first one doesn't match or has a shorter prefix
  later : (i : ℕ) (r : Row) (rs : List Row) (w : Row) (n : ℕ) → (fits r keys ≡ true → prefix lpm r < prefix lpm w) → Wins (suc i) rs w n → Wins i (r ∷ rs) w n
  later i r rs w n short h = record {
    from = omega (arith, h.from);
    there = later_there i n r rs w h.from h.there;
    matches = h.matches;
    best = best;
    first = first;
  }
    where
      best : (m : ℕ) (s : Row) → slice_get (r ∷ rs) m ≡ Some s → fits s keys ≡ true → prefix lpm s ≤ prefix lpm w
      best zero s e f =
          let is : r ≡ s = some_is r s e in
          let l : prefix lpm s < prefix lpm w = subst (λ (x : Row). prefix lpm x < prefix lpm w) is (short (ap (λ (x : Row). fits x keys) is ∙ f)) in
          omega (arith, l)
      best (suc m) s e f = h.best m s e f

      first : (m : ℕ) (s : Row) → slice_get (r ∷ rs) m ≡ Some s → fits s keys ≡ true → prefix lpm s ≡ prefix lpm w → n ≤ m + i
      first zero s e f p =
          let is : r ≡ s = some_is r s e in
          let l : prefix lpm s < prefix lpm w = subst (λ (x : Row). prefix lpm x < prefix lpm w) is (short (ap (λ (x : Row). fits x keys) is ∙ f)) in
          absurd (omega (arith, l, p))
      first (suc m) s e f p = let l : n ≤ m + suc i = h.first m s e f p in omega (arith, l)

  -- the first row wins, where none behind it that matches has a longer prefix
  now : (i : ℕ) (r : Row) (rs : List Row) → fits r keys ≡ true → ((m : ℕ) (s : Row) → slice_get rs m ≡ Some s → fits s keys ≡ true → prefix lpm s ≤ prefix lpm r) → Wins i (r ∷ rs) r i
  now i r rs f shorter = record {
    from = omega arith;
    there = let none : i - i ≡ 0 = omega arith in ap (slice_get (r ∷ rs)) none;
    matches = f;
    best = best;
    first = λ m s e g p. omega arith;
  }
    where
      best : (m : ℕ) (s : Row) → slice_get (r ∷ rs) m ≡ Some s → fits s keys ≡ true → prefix lpm s ≤ prefix lpm r
      best zero s e g = let is : prefix lpm r ≡ prefix lpm s = ap (prefix lpm) (some_is r s e) in omega (arith, is)
      best (suc m) s e g = shorter m s e g

  with_longer : (i : ℕ) (r : Row) (rs : List Row) (w : Row × ℕ) → fits r keys ≡ true → Wins (suc i) rs w.0 w.1 → (b : Bool) → nat_lt (prefix lpm r) (prefix lpm w.0) ≡ b → Found i (r ∷ rs) (if b then Some w else Some (r, i))
  with_longer i r rs w f h true e = later i r rs w.0 w.1 (λ g. ltb-true (prefix lpm r) (prefix lpm w.0) e) h
  with_longer i r rs w f h false e =
      let l : prefix lpm w.0 ≤ prefix lpm r = ltb-false (prefix lpm r) (prefix lpm w.0) e in
      now i r rs f (λ m s at g. let k : prefix lpm s ≤ prefix lpm w.0 = h.best m s at g in omega (arith, l, k))

  with_better : (i : ℕ) (r : Row) (rs : List Row) → fits r keys ≡ true → (o : Option (Row × ℕ)) → Found (suc i) rs o → Found i (r ∷ rs) (better lpm (r, i) o)
  with_better i r rs f None h = now i r rs f (λ m s e g. misfit s (h m s e) g)
  with_better i r rs f (Some w) h = with_longer i r rs w f h (nat_lt (prefix lpm r) (prefix lpm w.0)) refl

  none_here : (r : Row) (rs : List Row) → fits r keys ≡ false → ((m : ℕ) (s : Row) → slice_get rs m ≡ Some s → fits s keys ≡ false) → (m : ℕ) (s : Row) → slice_get (r ∷ rs) m ≡ Some s → fits s keys ≡ false
  none_here r rs f h zero s e = ap (λ (x : Row). fits x keys) (sym (some_is r s e)) ∙ f
  none_here r rs f h (suc m) s e = h m s e

  skipped : (i : ℕ) (r : Row) (rs : List Row) → fits r keys ≡ false → (o : Option (Row × ℕ)) → Found (suc i) rs o → Found i (r ∷ rs) o
  skipped i r rs f None h = none_here r rs f h
  skipped i r rs f (Some w) h = later i r rs w.0 w.1 (λ g. misfit r f g) h

  one_more : (i : ℕ) (r : Row) (rs : List Row) (o : Option (Row × ℕ)) → Found (suc i) rs o → (b : Bool) → fits r keys ≡ b → Found i (r ∷ rs) (if b then better lpm (r, i) o else o)
  one_more i r rs o h true e = with_better i r rs e o h
  one_more i r rs o h false e = skipped i r rs e o h

  -- what is found among the numbered entries
  pub found : (i : ℕ) (rs : List Row) → Found i rs (winner lpm keys (numbered i rs))
  found i [] = λ m s e. gone e
  found i (r ∷ rs) = one_more i r rs (winner lpm keys (numbered (suc i) rs)) (found (suc i) rs) (fits r keys) refl
