-- A reader and a way of spelling belong together: what is read was spelled so, and what is spelled so is read.
use Rattle.std.proofs.Common.{◌≡◌, ℕ, zero, suc, ◌+◌, ◌-◌, ◌^◌, ◌≤◌, ◌<◌, List, [], ◌∷◌, ◌++◌, length, get_or, take, drop, Bool, true, false, cond, leb, ltb, eqb, ◌&&◌, Result, Ok, Err, arith, refl, sym, ap, subst, ◌∙◌, append_assoc, inl, inr}
use Rattle.std.specs.List.{list_all}
use Rattle.std.specs.Int.{Width, w16, w32, w64, byte_len, from_be_bytes, to_be_bytes, bytes_high_first, byte_at}
use Rattle.std.proofs.lemmas.Bool.{cases_lt, ltb-false, ltb-true, lt-ltb, le-ltb, eqb-true, eq-eqb, and_parts, and_from}
use Rattle.std.proofs.lemmas.List.{take_at, drop_at, take-append-drop, length-append, length-take, length-drop, get_or-drop, get_or-take, get_or_past, drop-drop}
use Rattle.std.proofs.lemmas.Nat.{be_bytes_2, be_bytes_4, be_bytes_8, from_be_bytes-to_be_bytes_2, from_be_bytes-to_be_bytes_4, from_be_bytes-to_be_bytes_8}
use Rattle.rp_frame.specs.Ranges.{all_bytes}
use Rattle.rp_frame.specs.Reading.{Reader, and_then, ◌>>=◌, done, whole, between}

abbrev pub IsBytes : List ℕ → Type 0
IsBytes bytes = (i : ℕ) → get_or bytes i 0 < 256

IsBytes-drop : (n : ℕ) (bytes : List ℕ) → IsBytes bytes → IsBytes (drop n bytes)
IsBytes-drop n bytes h i = rw get_or-drop (h (n + i))

IsBytes-take : (n : ℕ) (bytes : List ℕ) → IsBytes bytes → IsBytes (take n bytes)
IsBytes-take n bytes h i =
    elim (cases_lt i n) [
      | inl lt ↦ rw (get_or-take n bytes i 0 lt) (h i)
      | inr le ↦ rw (get_or_past (take n bytes) i 0 (omega (arith, length-take n bytes))) (omega arith)
    ]

-- a text stands from one place to another
pub record Took (at : ℕ) (bytes text : List ℕ) (next : ℕ) : Type 0 where
  pub here : drop at bytes ≡ text ++ drop next bytes
  pub next_is : next ≡ at + length text

pub Took-then : (at mid next : ℕ) (bytes a b : List ℕ) → Took at bytes a mid → Took mid bytes b next → Took at bytes (a ++ b) next
Took-then at mid next bytes a b p q = record {
  here = p.here ∙ ap (λ (t : List ℕ). a ++ t) q.here ∙ sym (append_assoc a b (drop next bytes));
  next_is = omega (arith, length-append a b, p.next_is, q.next_is);
}

-- what stands behind a text
pub behind : (at : ℕ) (bytes a rest : List ℕ) → drop at bytes ≡ a ++ rest → drop (at + length a) bytes ≡ rest
behind at bytes a rest h = sym (drop-drop (length a) at bytes) ∙ ap (drop (length a)) h ∙ drop_at a rest (length a) refl

-- ---- results

pub and_then_ok : {A B : Type 0} (r : Result A ℕ) (f : A → Result B ℕ) (y : B) → and_then r f ≡ Ok y → (x : A) × (r ≡ Ok x) × (f x ≡ Ok y)
and_then_ok (Ok x) f y e = (x, refl, e)
and_then_ok (Err d) f y e = absurd cc

pub test_ok : {A : Type 0} (b : Bool) (d : ℕ) (x y : A) → cond b (Ok x) (Err d) ≡ Ok y → (b ≡ true) × (x ≡ y)
test_ok true d x y e = (refl, cc)
test_ok false d x y e = absurd cc

guard_ok : {A : Type 0} (b : Bool) (d : ℕ) (x y : A) → cond b (Err d) (Ok x) ≡ Ok y → (b ≡ false) × (x ≡ y)
guard_ok true d x y e = absurd cc
guard_ok false d x y e = (refl, cc)

abbrev fine : {A : Type 0} → A → Result A ℕ
fine x = Ok x

pub ok_is : {A : Type 0} (x y : A) → fine x ≡ fine y → x ≡ y
ok_is x y e = cc

-- ---- readers and spellings

-- what was read: a value made of an x that passes, spelled from one place to another
pub record Taken {A B : Type 0} (C : A → B) (s : A → List ℕ) (F : A → Bool) (at : ℕ) (bytes : List ℕ) (y : B) (next : ℕ) : Type 0 where
  pub x : A
  pub is : C x ≡ y
  pub fits : F x ≡ true
  pub took : Took at bytes (s x) next

-- the reader reads exactly the values C x of each x that passes, each from its spelling
pub record Reads {A B : Type 0} (r : Reader B) (C : A → B) (s : A → List ℕ) (F : A → Bool) : Type 0 where
  pub takes : (at : ℕ) (bytes : List ℕ) (y : B) (next : ℕ) → IsBytes bytes → r at bytes ≡ Ok (y, next) → Taken C s F at bytes y next
  pub again : (at : ℕ) (bytes rest : List ℕ) (x : A) → F x ≡ true → drop at bytes ≡ s x ++ rest → r at bytes ≡ Ok (C x, at + length (s x))

abbrev pub Codec : {A : Type 0} → Reader A → (A → List ℕ) → (A → Bool) → Type 0
Codec {A} r s F = Reads r (λ (x : A). x) s F

-- one field, and then others
pub chained : {A A' B : Type 0} (r : Reader A) (g : A → Reader B) (s : A → List ℕ) (F : A → Bool) (C : A → A' → B) (t : A → A' → List ℕ) (G : A → A' → Bool)
    → Codec r s F → ((x : A) → Reads (g x) (C x) (t x) (G x)) → Reads (r >>= g) (λ (p : A × A'). C p.0 p.1) (λ p. s p.0 ++ t p.0 p.1) (λ p. F p.0 && G p.0 p.1)
chained {A} {A'} {B} r g s F C t G first others = record {
  takes = λ at bytes y next fits e.
      let b = and_then_ok (r at bytes) (λ x. g x.0 x.1 bytes) (y, next) e in
      let one = first.takes at bytes b.0.0 b.0.1 fits b.1 in
      let two = (others b.0.0).takes b.0.1 bytes y next fits b.2 in
      record {
        x = (b.0.0, two.x);
        is = two.is;
        fits = and_from _ _ (subst (λ (x : A). F x ≡ true) one.is one.fits) two.fits;
        took = Took-then at b.0.1 next bytes (s b.0.0) (t b.0.0 two.x) (subst (λ (x : A). Took at bytes (s x) b.0.1) one.is one.took) two.took;
      };
  again = λ at bytes rest p fits h.
      let f = and_parts _ _ fits in
      let here : drop at bytes ≡ s p.0 ++ (t p.0 p.1 ++ rest) = h ∙ append_assoc (s p.0) (t p.0 p.1) rest in
      let one = first.again at bytes (t p.0 p.1 ++ rest) p.0 f.0 here in
      let two = (others p.0).again (at + length (s p.0)) bytes rest p.1 f.1 (behind at bytes (s p.0) (t p.0 p.1 ++ rest) here) in
      let place : (at + length (s p.0)) + length (t p.0 p.1) ≡ at + length (s p.0 ++ t p.0 p.1) = omega (arith, length-append (s p.0) (t p.0 p.1)) in
      ap (λ (q : Result (A × ℕ) ℕ). and_then q (λ x. g x.0 x.1 bytes)) one ∙ two ∙ ap (λ (n : ℕ). Ok (C p.0 p.1, n)) place;
}

-- the last field
pub last : {A B : Type 0} (r : Reader A) (s : A → List ℕ) (F : A → Bool) (C : A → B) → Codec r s F → Reads (r >>= λ x. done (C x)) C s F
last {A} {B} r s F C first = record {
  takes = λ at bytes y next fits e.
      let b = and_then_ok (r at bytes) (λ x. Ok (C x.0, x.1)) (y, next) e in
      let one = first.takes at bytes b.0.0 b.0.1 fits b.1 in
      let same = ok_is (C b.0.0, b.0.1) (y, next) b.2 in
      record {
        x = one.x;
        is = ap C one.is ∙ ap (λ (q : B × ℕ). q.0) same;
        fits = one.fits;
        took = subst (λ (n : ℕ). Took at bytes (s one.x) n) (ap (λ (q : B × ℕ). q.1) same) one.took;
      };
  again = λ at bytes rest x fits h. ap (λ (q : Result (A × ℕ) ℕ). and_then q (λ x. Ok (C x.0, x.1))) (first.again at bytes rest x fits h);
}

-- the same values by other parts
pub recoded : {A A' B : Type 0} (r : Reader B) (C : A → B) (s : A → List ℕ) (F : A → Bool) (C' : A' → B) (s' : A' → List ℕ) (F' : A' → Bool) (u : A → A') (v : A' → A)
    → ((x : A) → F x ≡ true → (C' (u x) ≡ C x) × (s' (u x) ≡ s x) × (F' (u x) ≡ true))
    → ((z : A') → F' z ≡ true → (C (v z) ≡ C' z) × (s (v z) ≡ s' z) × (F (v z) ≡ true))
    → Reads r C s F → Reads r C' s' F'
recoded {A} {A'} {B} r C s F C' s' F' u v to from h = record {
  takes = λ at bytes y next fits e.
      let one = h.takes at bytes y next fits e in
      let new = to one.x one.fits in
      record {
        x = u one.x;
        is = new.0 ∙ one.is;
        fits = new.2;
        took = subst (λ (t : List ℕ). Took at bytes t next) (sym new.1) one.took;
      };
  again = λ at bytes rest z fits here.
      let old = from z fits in
      h.again at bytes rest (v z) old.2 (here ∙ ap (λ (t : List ℕ). t ++ rest) (sym old.1))
      ∙ ap (λ (b : B). Ok (b, at + length (s (v z)))) old.0 ∙ ap (λ (t : List ℕ). Ok (C' z, at + length t)) old.1;
}

-- the same parts, spelled and tested in other words
pub restated : {A B : Type 0} (r : Reader B) (C : A → B) (s : A → List ℕ) (F : A → Bool) (s' : A → List ℕ) (F' : A → Bool)
    → ((x : A) → s' x ≡ s x) → ((x : A) → F' x ≡ F x) → Reads r C s F → Reads r C s' F'
restated {A} r C s F s' F' text test h = recoded r C s F C s' F' (λ x. x) (λ x. x) (λ x f. (refl, text x, test x ∙ f)) (λ x f. (refl, sym (text x), sym (test x) ∙ f)) h

-- ---- fields

-- each member is below a limit
pub all_below : (limit : ℕ) (xs : List ℕ) → ((i : ℕ) → get_or xs i 0 < limit) → list_all (λ x. ltb x limit) xs ≡ true
all_below limit [] h = refl
all_below limit (x ∷ xs) h = and_from _ _ (lt-ltb x limit (h 0)) (all_below limit xs (λ i. h (suc i)))

pub all_bytes_from : (bs : List ℕ) → IsBytes bs → all_bytes bs ≡ true
all_bytes_from = all_below 256

pub whole_is : (n : ℕ) → Codec (whole n) (λ b. b) (λ b. eqb (length b) n && all_bytes b)
unfolding whole
whole_is n = record {
  takes = λ at bytes y next fits e.
      let g = guard_ok (ltb (length bytes - at) n) at (take n (drop at bytes), at + n) (y, next) e in
      let long : n ≤ length bytes - at = ltb-false _ _ g.0 in
      let text : take n (drop at bytes) ≡ y = ap (λ (q : List ℕ × ℕ). q.0) g.1 in
      let place : at + n ≡ next = ap (λ (q : List ℕ × ℕ). q.1) g.1 in
      let size : length (take n (drop at bytes)) ≡ n = omega (arith, length-take n (drop at bytes), length-drop at bytes) in
      record {
        x = take n (drop at bytes);
        is = text;
        fits = and_from _ _ (eq-eqb _ _ size) (all_bytes_from _ (IsBytes-take n (drop at bytes) (IsBytes-drop at bytes fits)));
        took = record {
          here = sym (take-append-drop n (drop at bytes)) ∙ ap (λ (t : List ℕ). take n (drop at bytes) ++ t) (drop-drop n at bytes ∙ ap (λ (k : ℕ). drop k bytes) place);
          next_is = omega arith;
        };
      };
  again = λ at bytes rest x fits h.
      let f = and_parts _ _ fits in
      let size : length x ≡ n = eqb-true _ _ f.0 in
      let full : ltb (length bytes - at) n ≡ false = le-ltb _ _ (omega (arith, length-drop at bytes, ap length h, length-append x rest)) in
      let text : take n (drop at bytes) ≡ x = ap (take n) h ∙ take_at x rest n size in
      rw (full, text, ← size) refl;
}

-- a value between two bounds
pub between_is : (low high : ℕ) (r : Reader ℕ) (s : ℕ → List ℕ) (F : ℕ → Bool) → Codec r s F → Codec (between low high r) s (λ x. F x && (leb low x && leb x high))
between_is low high r s F h = record {
  takes = λ at bytes y next fits e.
      let b = and_then_ok (r at bytes) (λ x. cond (leb low x.0 && leb x.0 high) (Ok x) (Err at)) (y, next) e in
      let t = test_ok (leb low b.0.0 && leb b.0.0 high) at b.0 (y, next) b.2 in
      let one = h.takes at bytes b.0.0 b.0.1 fits b.1 in
      let same : b.0.0 ≡ y = ap (λ (q : ℕ × ℕ). q.0) t.1 in
      record {
        x = one.x;
        is = one.is ∙ same;
        fits = and_from _ _ one.fits (subst (λ (x : ℕ). (leb low x && leb x high) ≡ true) (sym one.is) t.0);
        took = subst (λ (n : ℕ). Took at bytes (s one.x) n) (ap (λ (q : ℕ × ℕ). q.1) t.1) one.took;
      };
  again = λ at bytes rest x fits here.
      let f = and_parts _ _ fits in
      rw (h.again at bytes rest x f.0 here, f.1) refl;
}

-- ---- numbers

pub record IsWide (w : Width) (limit : ℕ) : Type 0 where
  pub len : (n : ℕ) → length (to_be_bytes w n) ≡ byte_len w
  pub bytes : (n : ℕ) → all_bytes (to_be_bytes w n) ≡ true
  pub back : (bytes : List ℕ) → length bytes ≡ byte_len w → all_bytes bytes ≡ true → to_be_bytes w (from_be_bytes w bytes) ≡ bytes
  pub again : (n : ℕ) → n < limit → from_be_bytes w (to_be_bytes w n) ≡ n
  pub below : (bytes : List ℕ) → all_bytes bytes ≡ true → from_be_bytes w bytes < limit

all_bytes_at : (bs : List ℕ) → all_bytes bs ≡ true → IsBytes bs
all_bytes_at [] h i = omega arith
all_bytes_at (b ∷ bs) h zero = ltb-true b 256 (and_parts _ _ h).0
all_bytes_at (b ∷ bs) h (suc i) = all_bytes_at bs (and_parts _ _ h).1 i

byte_below : (k n : ℕ) → byte_at k n < 256
byte_below zero n = omega arith
byte_below (suc k) n = omega arith

all_high : (k n : ℕ) → all_bytes (bytes_high_first k n) ≡ true
all_high zero n = refl
all_high (suc k) n = and_from _ _ (lt-ltb (byte_at k n) 256 (byte_below k n)) (all_high k n)

pub wide16 : IsWide w16 (2 ^ 16)
wide16 = record {
  len = λ n. refl;
  bytes = λ n. all_high (byte_len w16) n;
  back = λ bytes len fits. be_bytes_2 bytes _ len (all_bytes_at bytes fits) refl;
  again = λ n lt. from_be_bytes-to_be_bytes_2 n lt;
  below = λ bytes fits. let h = all_bytes_at bytes fits in omega (arith, h 0, h 1);
}

pub wide32 : IsWide w32 (2 ^ 32)
wide32 = record {
  len = λ n. refl;
  bytes = λ n. all_high (byte_len w32) n;
  back = λ bytes len fits. be_bytes_4 bytes _ len (all_bytes_at bytes fits) refl;
  again = λ n lt. from_be_bytes-to_be_bytes_4 n lt;
  below = λ bytes fits. let h = all_bytes_at bytes fits in omega (arith, h 0, h 1, h 2, h 3);
}

pub wide64 : IsWide w64 (2 ^ 64)
wide64 = record {
  len = λ n. refl;
  bytes = λ n. all_high (byte_len w64) n;
  back = λ bytes len fits. be_bytes_8 bytes _ len (all_bytes_at bytes fits) refl;
  again = λ n lt. from_be_bytes-to_be_bytes_8 n lt;
  below = λ bytes fits. let h = all_bytes_at bytes fits in omega (arith, h 0, h 1, h 2, h 3, h 4, h 5, h 6, h 7);
}

-- a number of this width
pub wide_is : (w : Width) (limit : ℕ) → IsWide w limit → Codec (whole (byte_len w) >>= λ b. done (from_be_bytes w b)) (to_be_bytes w) (λ n. ltb n limit)
wide_is w limit wide =
    recoded (whole (byte_len w) >>= λ b. done (from_be_bytes w b)) (from_be_bytes w) (λ b. b) (λ b. eqb (length b) (byte_len w) && all_bytes b)
    (λ (n : ℕ). n) (to_be_bytes w) (λ n. ltb n limit) (from_be_bytes w) (to_be_bytes w)
    (λ b f. let p = and_parts _ _ f in (refl, wide.back b (eqb-true _ _ p.0) p.1, lt-ltb _ _ (wide.below b p.1)))
    (λ n f. (wide.again n (ltb-true _ _ f), refl, and_from _ _ (eq-eqb _ _ (wide.len n)) (wide.bytes n)))
    (last (whole (byte_len w)) (λ b. b) (λ b. eqb (length b) (byte_len w) && all_bytes b) (from_be_bytes w) (whole_is (byte_len w)))
