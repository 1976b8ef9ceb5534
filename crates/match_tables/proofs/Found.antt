-- What a search among the sorted entries finds.
use Rattle.std.proofs.Common.{◌≡◌, ℕ, zero, suc, ◌+◌, ◌-◌, ◌<◌, ◌≤◌, Bool, true, false, cond, List, [], ◌∷◌, length, Option, Some, None, refl, sym, ap, ◌∙◌, subst, if◌then◌else◌, nat_le, arith, ◌==◌, ◌&&◌, min}
use Rattle.std.specs.Prelude.{slice_get, bit_and, bytes_eq, ⊤}
use Rattle.std.specs.List.{AllByRecursion}
use Rattle.std.specs.Ordering.{is_eq, nat_cmp}
use Rattle.std.specs.declared.cmp.Ordering.{Ordering}
use Rattle.std.specs.declared.cmp.Ordering.TheVariants.{Less, Equal, Greater}
use Rattle.std.specs.Cmp.Lexicographic.{slice_cmp}
use Rattle.std.proofs.lemmas.Bool.{false≢true, leb-true, leb-false, ltb-true, ltb-false, eqb-true, eq-eqb}
use Rattle.std.proofs.lemmas.Map.Lookups.{exact_bytes}
use Rattle.std.proofs.lemmas.Map.Text.{is_eq-slice_cmp}
use Rattle.match_tables.specs.declared.entries.MatchCond.{MatchCond}
use Rattle.match_tables.specs.Winning.{fits, masks_of}
use Rattle.match_tables.specs.Placing.{spelled, asked, first_at, rank, behind, Best, passed, earlier, searched}
use Rattle.match_tables.specs.Standing.{is_same}
use Rattle.match_tables.proofs.Winners.{gone, some_is}

-- ---- spelled entries

is_eq_equal : (o : Ordering) → is_eq o ≡ true → o ≡ Equal
is_eq_equal Less e = absurd (false≢true e)
is_eq_equal Equal e = refl
is_eq_equal Greater e = absurd (false≢true e)

pub same_is : (x y : List ℕ) → is_same x y ≡ true → x ≡ y
same_is x y e = exact_bytes x y (is_eq_equal (slice_cmp nat_cmp x y) e)

abbrev head_or : List ℕ → ℕ
head_or [] = 0
head_or (x ∷ xs) = x

abbrev tail_of : List ℕ → List ℕ
tail_of [] = []
tail_of (x ∷ xs) = xs

-- entries that are spelled alike are one
pub spelled_is : (r s : List MatchCond) → spelled r ≡ spelled s → r ≡ s
spelled_is [] [] e = refl
spelled_is [] (m ∷ ms) e = absurd (let l : 0 ≡ suc (suc (length (spelled ms))) = ap length e in omega (arith, l))
spelled_is (m ∷ ms) [] e = absurd (let l : suc (suc (length (spelled ms))) ≡ 0 = ap length e in omega (arith, l))
spelled_is (m ∷ ms) (n ∷ ns) e =
    let value : m.value ≡ n.value = ap head_or e in
    let mask : m.mask ≡ n.mask = ap (λ (xs : List ℕ). head_or (tail_of xs)) e in
    let rest : ms ≡ ns = spelled_is ms ns (ap (λ (xs : List ℕ). tail_of (tail_of xs)) e) in
    λ i. record { value = value i; mask = mask i } ∷ rest i

and_left : (a b : Bool) → (a && b) ≡ true → a ≡ true
and_left true b e = refl
and_left false b e = e

and_right : (a b : Bool) → (a && b) ≡ true → b ≡ true
and_right true b e = e
and_right false b e = absurd (false≢true e)

-- an entry that matches is what is asked of its masks
pub asked_fits : (r : List MatchCond) (keys : List ℕ) → length r ≤ length keys → fits r keys ≡ true → asked (masks_of r) keys ≡ spelled r
asked_fits [] keys l f = refl
asked_fits (m ∷ ms) [] l f = absurd (omega (arith, l))
asked_fits (m ∷ ms) (k ∷ ks) l f =
    let one : bit_and k m.mask ≡ m.value = eqb-true (bit_and k m.mask) m.value (and_left (bit_and k m.mask == m.value) (fits ms ks) f) in
    let rest : asked (masks_of ms) ks ≡ spelled ms = asked_fits ms ks (omega (arith, l)) (and_right (bit_and k m.mask == m.value) (fits ms ks) f) in
    λ i. one i ∷ m.mask ∷ rest i

-- an entry that is what is asked of some masks has them and matches
pub fits_asked : (r : List MatchCond) (ms keys : List ℕ) → length ms ≡ length r → length r ≡ length keys → spelled r ≡ asked ms keys → (masks_of r ≡ ms) × (fits r keys ≡ true)
fits_asked [] [] keys a b e = (refl, refl)
fits_asked [] (m ∷ ms) keys a b e = absurd (omega (arith, a))
fits_asked (r ∷ rs) [] keys a b e = absurd (omega (arith, a))
fits_asked (r ∷ rs) (m ∷ ms) [] a b e = absurd (omega (arith, b))
fits_asked (r ∷ rs) (m ∷ ms) (k ∷ ks) a b e =
    let value : r.value ≡ bit_and k m = ap head_or e in
    let mask : r.mask ≡ m = ap (λ (xs : List ℕ). head_or (tail_of xs)) e in
    let rest : (masks_of rs ≡ ms) × (fits rs ks ≡ true) = fits_asked rs ms ks (omega (arith, a)) (omega (arith, b)) (ap (λ (xs : List ℕ). tail_of (tail_of xs)) e) in
    let hit : (bit_and k r.mask == r.value) ≡ true = eq-eqb (bit_and k r.mask) r.value (ap (bit_and k) mask ∙ sym value) in
    ((λ i. mask i ∷ rest.0 i), (λ i. hit i && rest.1 i))

-- ---- the first entry that is spelled so

pub record At (x : List ℕ) (i : ℕ) (rs : List (List MatchCond)) (n : ℕ) : Type 0 where
  pub row : List MatchCond
  pub from : i ≤ n
  pub there : slice_get rs (n - i) ≡ Some row
  pub same : spelled row ≡ x

pub first_there : (x : List ℕ) (i : ℕ) (rs : List (List MatchCond)) (n : ℕ) → first_at x i rs ≡ Some n → At x i rs n
first_there x i [] n e = gone e
first_there x i (r ∷ rs) n e = by (first_there x (suc i) rs n) (is_same x (spelled r)) refl e
  where
    by : (first_at x (suc i) rs ≡ Some n → At x (suc i) rs n) → (b : Bool) → is_same x (spelled r) ≡ b → cond b (Some i) (first_at x (suc i) rs) ≡ Some n → At x i (r ∷ rs) n
    by more true s e =
        let is : i ≡ n = some_is i n e in
        let none : n - i ≡ 0 = omega (arith, is) in
        record { row = r; from = omega (arith, is); there = ap (slice_get (r ∷ rs)) none; same = sym (same_is x (spelled r) s) }
    by more false s e =
        let at : At x (suc i) rs n = more e in
        let one : n - i ≡ suc (n - suc i) = omega (arith, at.from) in
        record { row = at.row; from = omega (arith, at.from); there = ap (slice_get (r ∷ rs)) one ∙ at.there; same = at.same }

pub record Before (x : List ℕ) (i : ℕ) (rs : List (List MatchCond)) (m : ℕ) : Type 0 where
  pub number : ℕ
  pub found : first_at x i rs ≡ Some number
  pub early : number ≤ m + i

bytes_refl : (x : List ℕ) → bytes_eq x x ≡ true
bytes_refl [] = refl
bytes_refl (k ∷ ks) = λ i. eq-eqb k k refl i && bytes_refl ks i

pub same_refl : (x : List ℕ) → is_same x x ≡ true
same_refl x = is_eq-slice_cmp x x ∙ bytes_refl x

pub first_before : (x : List ℕ) (i : ℕ) (rs : List (List MatchCond)) (m : ℕ) (r : List MatchCond) → slice_get rs m ≡ Some r → spelled r ≡ x → Before x i rs m
first_before x i [] m r e s = gone e
first_before x i (q ∷ rs) m r e s = by (λ k g. first_before x (suc i) rs k r g s) (is_same x (spelled q)) refl m e
  where
    by : ((k : ℕ) → slice_get rs k ≡ Some r → Before x (suc i) rs k) → (b : Bool) → is_same x (spelled q) ≡ b → (m : ℕ) → slice_get (q ∷ rs) m ≡ Some r → Before x i (q ∷ rs) m
    by more true t m e = record { number = i; found = ap (λ (c : Bool). cond c (Some i) (first_at x (suc i) rs)) t; early = omega arith }
    by more false t zero e = absurd (false≢true (sym t ∙ ap (λ (y : List ℕ). is_same x y) (ap spelled (some_is q r e) ∙ s) ∙ same_refl x))
    by more false t (suc m) e =
        let b : Before x (suc i) rs m = more m e in
        record { number = b.number; found = ap (λ (c : Bool). cond c (Some i) (first_at x (suc i) rs)) t ∙ b.found; early = omega (arith, b.early) }

-- ---- the search

abbrev pub Rises : List (List ℕ) → Type 0
Rises [] = ⊤
Rises (s ∷ ss) = AllByRecursion (λ (t : List ℕ). rank s ≤ rank t) ss × Rises ss

-- the best entry so far isn't behind the lists that follow
abbrev pub Ahead : Best → List (List ℕ) → Type 0
Ahead None ss = ⊤
Ahead (Some b) ss = AllByRecursion (λ (t : List ℕ). b.0 ≤ rank t) ss

-- the best entry so far is at or before this one
abbrev pub Below : Best → ℕ → ℕ → Type 0
Below None q n = ⊥
Below (Some b) q n = (b.0 ≤ q) × (b.0 ≡ q → b.1 ≤ n)

-- a fact of the best entry so far
abbrev pub OfBest : (ℕ → ℕ → Type 0) → Best → Type 0
OfBest P None = ⊤
OfBest P (Some b) = P b.0 b.1

all_at : {X : Type 0} (P : X → Type 0) (xs : List X) (j : ℕ) (x : X) → slice_get xs j ≡ Some x → AllByRecursion P xs → P x
all_at P [] j x e h = gone e
all_at P (y ∷ ys) zero x e h = subst P (some_is y x e) h.0
all_at P (y ∷ ys) (suc j) x e h = all_at P ys j x e h.1

ahead_earlier : (best : Best) (s : List ℕ) (ss : List (List ℕ)) (f : Option ℕ) → passed best (rank s) ≡ false → Ahead best (s ∷ ss) → AllByRecursion (λ (t : List ℕ). rank s ≤ rank t) ss → Ahead (earlier best (rank s) f) ss
ahead_earlier None s ss None p a r = tt
ahead_earlier (Some b) s ss None p a r = a.1
ahead_earlier None s ss (Some n) p a r = r
ahead_earlier (Some b) s ss (Some n) p a r = r

below_earlier : (best : Best) (p q n : ℕ) (f : Option ℕ) → passed best p ≡ false → OfBest (λ a b. a ≤ p) best → Below best q n → Below (earlier best p f) q n
below_earlier None p q n f e a l = absurd l
below_earlier (Some b) p q n None e a l = l
below_earlier (Some b) p q n (Some m) e a l =
    let k : p ≤ b.0 = ltb-false b.0 p e in
    let is : b.0 ≡ p = omega (arith, k, a) in
    (omega (arith, is, l.0), λ g. let t : b.1 ≤ n = l.1 (is ∙ g) in omega (arith, t))

head_ahead : (best : Best) (s : List ℕ) (ss : List (List ℕ)) → Ahead best (s ∷ ss) → OfBest (λ a b. a ≤ rank s) best
head_ahead None s ss a = tt
head_ahead (Some b) s ss a = a.0

module _ (find : List ℕ → Option ℕ) (keys : List ℕ) where
  abbrev at : List ℕ → Option ℕ
  at s = find (asked (behind s) keys)

  kept_below : (best : Best) (ss : List (List ℕ)) (q n : ℕ) → Ahead best ss → Rises ss → Below best q n → Below (searched find keys best ss) q n
  kept_below best [] q n a r l = l
  kept_below best (s ∷ ss) q n a r l = by (λ e. kept_below (earlier best (rank s) (at s)) ss q n (ahead_earlier best s ss (at s) e a r.0) r.1 (below_earlier best (rank s) q n (at s) e (head_ahead best s ss a) l)) (passed best (rank s)) refl
    where
      by : (passed best (rank s) ≡ false → Below (searched find keys (earlier best (rank s) (at s)) ss) q n) → (b : Bool) → passed best (rank s) ≡ b → Below (if b then best else searched find keys (earlier best (rank s) (at s)) ss) q n
      by more true e = l
      by more false e = more e

  past_below : (best : Best) (p q n : ℕ) → passed best p ≡ true → p ≤ q → Below best q n
  past_below None p q n e l = absurd (false≢true e)
  past_below (Some b) p q n e l = let k : b.0 < p = ltb-true b.0 p e in (omega (arith, k, l), λ g. absurd (omega (arith, k, l, g)))

  now_below : (best : Best) (p n : ℕ) (f : Option ℕ) → f ≡ Some n → Below (earlier best p f) p n
  now_below best p n None e = gone e
  now_below None p n (Some m) e = let is : m ≡ n = some_is m n e in (omega arith, λ g. omega (arith, is))
  now_below (Some b) p n (Some m) e = let is : m ≡ n = some_is m n e in (omega arith, λ g. omega (arith, is))

  -- what is found is at or before what each list of masks finds
  pub each_below : (best : Best) (ss : List (List ℕ)) (j : ℕ) (s : List ℕ) (n : ℕ) → Ahead best ss → Rises ss → slice_get ss j ≡ Some s → at s ≡ Some n → Below (searched find keys best ss) (rank s) n
  each_below best [] j s n a r e f = gone e
  each_below best (t ∷ ss) j s n a r e f =
      by (λ p k g. each_below (earlier best (rank t) (at t)) ss k s n (ahead_earlier best t ss (at t) p a r.0) r.1 g f) (passed best (rank t)) refl j e
    where
      by : (passed best (rank t) ≡ false → (k : ℕ) → slice_get ss k ≡ Some s → Below (searched find keys (earlier best (rank t) (at t)) ss) (rank s) n) → (b : Bool) → passed best (rank t) ≡ b → (j : ℕ) → slice_get (t ∷ ss) j ≡ Some s → Below (if b then best else searched find keys (earlier best (rank t) (at t)) ss) (rank s) n
      by more true p zero e = let is : rank t ≡ rank s = ap rank (some_is t s e) in past_below best (rank t) (rank s) n p (omega (arith, is))
      by more true p (suc j) e = past_below best (rank t) (rank s) n p (all_at (λ (u : List ℕ). rank t ≤ rank u) ss j s e r.0)
      by more false p zero e =
          let is : t ≡ s = some_is t s e in
          kept_below (earlier best (rank t) (at t)) ss (rank s) n (ahead_earlier best t ss (at t) p a r.0) r.1
          (subst (λ (u : List ℕ). Below (earlier best (rank t) (at t)) (rank u) n) is (now_below best (rank t) n (at t) (ap at is ∙ f)))
      by more false p (suc j) e = more p j e

  least : (P : ℕ → ℕ → Type 0) (p m n : ℕ) → P p m → P p n → P p (min m n)
  least P p m n x y = which (nat_le m n) refl
    where
      which : (b : Bool) → nat_le m n ≡ b → P p (min m n)
      which true e = let l : m ≤ n = leb-true m n e in let is : m ≡ min m n = omega (arith, l) in subst (P p) is x
      which false e = let l : n < m = leb-false m n e in let is : n ≡ min m n = omega (arith, l) in subst (P p) is y

  of_earlier : (P : ℕ → ℕ → Type 0) (best : Best) (p : ℕ) (f : Option ℕ) → passed best p ≡ false → OfBest (λ a b. a ≤ p) best → OfBest P best → ((n : ℕ) → f ≡ Some n → P p n) → OfBest P (earlier best p f)
  of_earlier P best p None e a h g = h
  of_earlier P None p (Some n) e a h g = g n refl
  of_earlier P (Some b) p (Some n) e a h g =
      let k : p ≤ b.0 = ltb-false b.0 p e in
      let is : b.0 ≡ p = omega (arith, k, a) in
      least P p b.1 n (subst (λ (q : ℕ). P q b.1) is h) (g n refl)

  -- what is found is found by one of the lists of masks
  pub of_found : (P : ℕ → ℕ → Type 0) (best : Best) (ss : List (List ℕ)) → Ahead best ss → Rises ss → OfBest P best → AllByRecursion (λ (s : List ℕ). (n : ℕ) → at s ≡ Some n → P (rank s) n) ss → OfBest P (searched find keys best ss)
  of_found P best [] a r h g = h
  of_found P best (s ∷ ss) a r h g = by (λ e. of_found P (earlier best (rank s) (at s)) ss (ahead_earlier best s ss (at s) e a r.0) r.1 (of_earlier P best (rank s) (at s) e (head_ahead best s ss a) h g.0) g.1) (passed best (rank s)) refl
    where
      by : (passed best (rank s) ≡ false → OfBest P (searched find keys (earlier best (rank s) (at s)) ss)) → (b : Bool) → passed best (rank s) ≡ b → OfBest P (if b then best else searched find keys (earlier best (rank s) (at s)) ss)
      by more true e = h
      by more false e = more e
