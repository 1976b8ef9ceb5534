-- An index of first places stays right as frames come, and gives the first frame of some bytes.
use Rattle.std.proofs.Common.{◌≡◌, ◌⊎◌, inl, inr, ℕ, zero, suc, ◌+◌, List, [], ◌∷◌, ◌++◌, length, Bool, true, false, cond, Option, Some, None, refl, sym, ap, ◌∙◌, arith}
use Rattle.std.proofs.lemmas.Grind.{common_steps}
use Rattle.std.specs.Prelude.{slice_get, Result, Ok, Err, OnOk, OnErr}
use Rattle.std.specs.List.{position_from}
use Rattle.std.specs.Str.{bytes_eq}
use Rattle.std.proofs.lemmas.Slice.Eq.{bytes_eq-Decides}
use Rattle.sent_frames.specs.declared.frames.Sent.{Sent}
use Rattle.sent_frames.specs.FirstFrames.{AreFirsts, first_place, has_bytes, right_at, right_place}

true_false : true ≡ false → ⊥
true_false h = grind (arith, common_steps)

module _ {X : Type 0} (t : X → Bool) where
  -- what stands at the place that was found
  pub record At (i : ℕ) (xs : List X) (n : ℕ) : Type 0 where
    pub place : ℕ
    pub here : X
    pub place_is : n ≡ i + place
    pub stands : slice_get xs place ≡ Some here
    pub passes : t here ≡ true

  pub found_at : (i : ℕ) (xs : List X) (n : ℕ) → position_from t i xs ≡ Some n → At i xs n
  found_at i [] n h = grind (arith, common_steps)
  found_at i (x ∷ xs) n h = by (t x) refl (λ e. found_at (i + 1) xs n e) h
    where
      by : (b : Bool) → t x ≡ b → (position_from t (i + 1) xs ≡ Some n → At (i + 1) xs n) → cond b (Some i) (position_from t (i + 1) xs) ≡ Some n → At i (x ∷ xs) n
      by true e more s = record { place = 0; here = x; place_is = grind (arith, common_steps); stands = refl; passes = e }
      by false e more s =
          let r = more s in
          record { place = suc r.place; here = r.here; place_is = omega (arith, r.place_is); stands = r.stands; passes = r.passes }

  -- nothing passes where nothing is found
  pub missed : (i : ℕ) (xs : List X) → position_from t i xs ≡ None → (k : ℕ) (x : X) → slice_get xs k ≡ Some x → t x ≡ false
  missed i [] n k x s = grind (arith, common_steps)
  missed i (y ∷ ys) n k x s = by (t y) refl n k s (λ e j. missed (i + 1) ys e j x)
    where
      by : (b : Bool) → t y ≡ b → cond b (Some i) (position_from t (i + 1) ys) ≡ None → (k : ℕ) → slice_get (y ∷ ys) k ≡ Some x → (position_from t (i + 1) ys ≡ None → (j : ℕ) → slice_get ys j ≡ Some x → t x ≡ false) → t x ≡ false
      by true e m k s more = grind (arith, common_steps)
      by false e m zero s more = grind (arith, common_steps)
      by false e m (suc k) s more = more m k s

  -- a found place stays, and what comes last is found where nothing was
  pub stays : (i : ℕ) (xs : List X) (y : X) (n : ℕ) → position_from t i xs ≡ Some n → position_from t i (xs ++ y ∷ []) ≡ Some n
  stays i [] y n h = grind (arith, common_steps)
  stays i (x ∷ xs) y n h = by (t x) h (λ e. stays (i + 1) xs y n e)
    where
      by : (b : Bool) → cond b (Some i) (position_from t (i + 1) xs) ≡ Some n → (position_from t (i + 1) xs ≡ Some n → position_from t (i + 1) (xs ++ y ∷ []) ≡ Some n) → cond b (Some i) (position_from t (i + 1) (xs ++ y ∷ [])) ≡ Some n
      by true s more = s
      by false s more = more s

  pub last : (i : ℕ) (xs : List X) (y : X) → position_from t i xs ≡ None → t y ≡ true → position_from t i (xs ++ y ∷ []) ≡ Some (i + length xs)
  last i [] y h e = rw e (ap Some (omega arith))
  last i (x ∷ xs) y h e = by (t x) h (λ m. last (i + 1) xs y m e)
    where
      by : (b : Bool) → cond b (Some i) (position_from t (i + 1) xs) ≡ None → (position_from t (i + 1) xs ≡ None → position_from t (i + 1) (xs ++ y ∷ []) ≡ Some (i + 1 + length xs)) → cond b (Some i) (position_from t (i + 1) (xs ++ y ∷ [])) ≡ Some (i + suc (length xs))
      by true s more = grind (arith, common_steps)
      by false s more = more s ∙ ap Some (omega arith)

-- what stands in a list with one more
pushed_at : {X : Type 0} (xs : List X) (y : X) (i : ℕ) (e : X) → slice_get (xs ++ y ∷ []) i ≡ Some e → (slice_get xs i ≡ Some e) ⊎ (y ≡ e)
pushed_at [] y zero e h = inr (grind (arith, common_steps))
pushed_at [] y (suc i) e h = grind (arith, common_steps)
pushed_at (x ∷ xs) y zero e h = inl h
pushed_at (x ∷ xs) y (suc i) e h = pushed_at xs y i e h

itself : (x : List ℕ) → bytes_eq x x ≡ true
itself x = (bytes_eq-Decides x x).1 refl

-- ---- an index

-- the place of bytes that some frame has
placed : (ss : List Sent) (place : List ℕ → Option ℕ) → AreFirsts ss place → (x : List ℕ) (n : ℕ) → first_place x ss ≡ Some n → place x ≡ Some n
placed ss place h x n e =
    let at = found_at (has_bytes x) 0 ss n e in
    let same : at.here.bytes ≡ x = (bytes_eq-Decides at.here.bytes x).0 at.passes in
    ap place (sym same) ∙ (h at.place at.here at.stands ∙ (ap (λ y. first_place y ss) same ∙ e))

pub looked : (ss : List Sent) (place : List ℕ → Option ℕ) → AreFirsts ss place → (x : List ℕ) → right_place x ss (place x) ≡ first_place x ss
looked ss place h x = by (first_place x ss) refl
  where
    last_one : first_place x ss ≡ None → (i : ℕ) (o : Option Sent) → slice_get ss i ≡ o → right_at x i o ≡ None
    last_one n i None s = refl
    last_one n i (Some e) s = ap (λ b. cond b (Some i) None) (missed (has_bytes x) 0 ss n i e s)

    other : first_place x ss ≡ None → (q : Option ℕ) → right_place x ss q ≡ None
    other n None = refl
    other n (Some i) = last_one n i (slice_get ss i) refl

    by : (o : Option ℕ) → first_place x ss ≡ o → right_place x ss (place x) ≡ o
    by None e = other e (place x)
    by (Some n) e =
        let at = found_at (has_bytes x) 0 ss n e in
        let stands : slice_get ss n ≡ Some at.here = ap (slice_get ss) (omega (arith, at.place_is)) ∙ at.stands in
        ap (right_place x ss) (placed ss place h x n e) ∙ (ap (right_at x n) stands ∙ ap (λ b. cond b (Some n) None) at.passes)

-- one more frame, whose bytes are found where they first stand
grown : (ss : List Sent) (place : List ℕ → Option ℕ) (s : Sent) → AreFirsts ss place → place s.bytes ≡ first_place s.bytes (ss ++ s ∷ []) → AreFirsts (ss ++ s ∷ []) place
grown ss place s h own i e g = by (pushed_at ss s i e g)
  where
    stood : slice_get ss i ≡ Some e → (o : Option ℕ) → first_place e.bytes ss ≡ o → place e.bytes ≡ first_place e.bytes (ss ++ s ∷ [])
    stood at None n = absurd (true_false (sym (itself e.bytes) ∙ missed (has_bytes e.bytes) 0 ss n i e at))
    stood at (Some n) f = h i e at ∙ (f ∙ sym (stays (has_bytes e.bytes) 0 ss s n f))

    by : (slice_get ss i ≡ Some e) ⊎ (s ≡ e) → place e.bytes ≡ first_place e.bytes (ss ++ s ∷ [])
    by (inl at) = stood at (first_place e.bytes ss) refl
    by (inr same) = ap (λ (t : Sent). place t.bytes) (sym same) ∙ (own ∙ ap (λ (t : Sent). first_place t.bytes (ss ++ s ∷ [])) same)

-- the bytes of the next frame have their place already
pub known : (ss : List Sent) (place : List ℕ → Option ℕ) (x : List ℕ) (n : ℕ) → AreFirsts ss place → first_place x ss ≡ Some n → (s : Sent) → s.bytes ≡ x → AreFirsts (ss ++ s ∷ []) place
known ss place x n h e s same =
    let here : first_place s.bytes ss ≡ Some n = ap (λ y. first_place y ss) same ∙ e in
    grown ss place s h (placed ss place h s.bytes n here ∙ sym (stays (has_bytes s.bytes) 0 ss s n here))

module _ (ss : List Sent) (place new : List ℕ → Option ℕ) (x : List ℕ) (h : AreFirsts ss place) (none : first_place x ss ≡ None) (step : (y : List ℕ) → new y ≡ cond (bytes_eq y x) (Some (length ss)) (place y)) where
  -- bytes that no frame has may have any place
  pub noted : AreFirsts ss new
  noted i e s = step e.bytes ∙ (ap (λ b. cond b (Some (length ss)) (place e.bytes)) (missed (has_bytes x) 0 ss none i e s) ∙ h i e s)

  -- the next frame has them
  pub first_noted : (s : Sent) → s.bytes ≡ x → AreFirsts (ss ++ s ∷ []) new
  first_noted s same =
      let now : new s.bytes ≡ Some (length ss) = ap new same ∙ (step x ∙ ap (λ b. cond b (Some (length ss)) (place x)) (itself x)) in
      let absent : first_place s.bytes ss ≡ None = ap (λ y. first_place y ss) same ∙ none in
      let number : 0 + length ss ≡ length ss = omega arith in
      grown ss new s noted (now ∙ ap Some (sym number) ∙ sym (last (has_bytes s.bytes) 0 ss s absent (itself s.bytes)))

-- ---- where bytes are noted or memory runs out

module _ (ss : List Sent) (place new : List ℕ → Option ℕ) (x : List ℕ) (h : AreFirsts ss place) (none : first_place x ss ≡ None) where
  pub noted_on : {A E : Type 0} (r : Result A E) → OnOk r ((y : List ℕ) → new y ≡ cond (bytes_eq y x) (Some (length ss)) (place y)) → OnErr r ((y : List ℕ) → new y ≡ place y) → AreFirsts ss new
  noted_on (Ok v) step stays = noted ss place new x h none step
  noted_on (Err e) step stays = λ i s at. stays s.bytes ∙ h i s at

  pub first_noted_on_ok : {A E : Type 0} (r : Result A E) → OnOk r ((y : List ℕ) → new y ≡ cond (bytes_eq y x) (Some (length ss)) (place y)) → OnOk r ((s : Sent) → s.bytes ≡ x → AreFirsts (ss ++ s ∷ []) new)
  first_noted_on_ok (Ok v) step = first_noted ss place new x h none step
  first_noted_on_ok (Err e) step = tt
