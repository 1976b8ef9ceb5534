-- The parts of frames are read as they are spelled.
use Rattle.std.proofs.Common.{◌≡◌, ℕ, zero, suc, ◌+◌, ◌^◌, ◌≤◌, ◌<◌, List, [], ◌∷◌, ◌++◌, length, get_or, drop, Bool, true, leb, ltb, eqb, ◌&&◌, Result, Ok, arith, refl, sym, ap, ◌∙◌, lit<}
use Rattle.std.specs.Int.{w16, w32, w64, byte_len, from_be_bytes}
use Rattle.std.specs.List.{flat_map, list_all}
use Rattle.std.proofs.lemmas.Bool.{false≢true, ltb-true, lt-ltb, leb-true, le-leb, eqb-true, eq-eqb, and_parts, and_from}
use Rattle.proto_data.specs.MessageFits.{is_u32, key_fits, delta_fits}
use Rattle.rp_app.specs.Application.{Delta, rising, cells_named}
use Rattle.rp_frame.specs.Ranges.{all_bytes, all_values, delta_in}
use Rattle.rp_frame.specs.Spelling.{number_bytes, short_bytes, value_bytes, key_bytes, cells_bytes, member_bytes, delta_bytes}
use Rattle.rp_frame.specs.Reading.{Reader, ◌>>=◌, done, whole, number, value, short, byte, members, key, cells, member, delta}
use Rattle.rp_frame.proofs.Codecs.{Codec, ok_is, chained, last, recoded, restated, whole_is, between_is, wide_is, wide16, wide32, wide64}

pub number_is : Codec number number_bytes is_u32
unfolding number
number_is = wide_is w32 (2 ^ 32) wide32

pub value_is : Codec value value_bytes (λ v. ltb v (2 ^ 64))
unfolding value
value_is = wide_is w64 (2 ^ 64) wide64

pub short_is : (low high : ℕ) → Codec (short low high) short_bytes (λ n. ltb n (2 ^ 16) && (leb low n && leb n high))
unfolding short
short_is low high = between_is low high (whole (byte_len w16) >>= λ b. done (from_be_bytes w16 b)) short_bytes (λ n. ltb n (2 ^ 16)) (wide_is w16 (2 ^ 16) wide16)

single : (b : List ℕ) → (eqb (length b) 1 && all_bytes b) ≡ true → (get_or b 0 0 ≡ get_or b 0 0) × (get_or b 0 0 ∷ [] ≡ b) × (ltb (get_or b 0 0) 256 ≡ true)
single [] f = absurd (false≢true f)
single (x ∷ []) f = (refl, refl, (and_parts (ltb x 256) true f).0)
single (x ∷ y ∷ ys) f = absurd (let e : suc (suc (length ys)) ≡ 1 = eqb-true (suc (suc (length ys))) 1 (and_parts (eqb (suc (suc (length ys))) 1) (all_bytes (x ∷ y ∷ ys)) f).0 in omega arith)

one_byte : Codec (whole 1 >>= λ b. done (get_or b 0 0)) (λ b. b ∷ []) (λ b. ltb b 256)
one_byte =
    recoded (whole 1 >>= λ b. done (get_or b 0 0)) (λ (b : List ℕ). get_or b 0 0) (λ b. b) (λ b. eqb (length b) 1 && all_bytes b)
    (λ (n : ℕ). n) (λ n. n ∷ []) (λ n. ltb n 256) (λ b. get_or b 0 0) (λ n. n ∷ [])
    single
    (λ n f. (refl, refl, and_from _ _ refl (and_from _ _ f refl)))
    (last (whole 1) (λ b. b) (λ b. eqb (length b) 1 && all_bytes b) (λ b. get_or b 0 0) (whole_is 1))

abbrev pub InByte : ℕ → ℕ → ℕ → Bool
InByte low high n = ltb n 256 && (leb low n && leb n high)

pub byte_is : (low high : ℕ) → Codec (byte low high) (λ n. n ∷ []) (InByte low high)
unfolding byte
byte_is low high = between_is low high (whole 1 >>= λ b. done (get_or b 0 0)) (λ n. n ∷ []) (λ n. ltb n 256) one_byte

pub in_byte : (low high n : ℕ) → low ≤ n → n ≤ high → n < 256 → InByte low high n ≡ true
in_byte low high n l h b = and_from _ _ (lt-ltb n 256 b) (and_from _ _ (le-leb low n l) (le-leb n high h))

pub byte_bounds : (low high n : ℕ) → InByte low high n ≡ true → (low ≤ n) × (n ≤ high)
byte_bounds low high n f = let p = and_parts _ _ (and_parts _ _ f).1 in (leb-true low n p.0, leb-true n high p.1)

-- ---- keys

key_to : (p : ℕ × List ℕ) → (InByte 1 16 p.0 && (eqb (length p.1) p.0 && all_bytes p.1)) ≡ true → (p.1 ≡ p.1) × (key_bytes p.1 ≡ p.0 ∷ p.1) × ((key_fits p.1 && all_bytes p.1) ≡ true)
key_to p f =
    let a = and_parts _ _ f in
    let b = and_parts _ _ a.1 in
    let bounds = byte_bounds 1 16 p.0 a.0 in
    let size : length p.1 ≡ p.0 = eqb-true (length p.1) p.0 b.0 in
    let low : 1 ≤ length p.1 = omega (arith, bounds.0) in
    let high : length p.1 ≤ 16 = omega (arith, bounds.1) in
    (refl, ap (λ (n : ℕ). n ∷ p.1) size, and_from _ _ (and_from _ _ (le-leb 1 (length p.1) low) (le-leb (length p.1) 16 high)) b.1)

key_from : (k : List ℕ) → (key_fits k && all_bytes k) ≡ true → (k ≡ k) × (length k ∷ k ≡ key_bytes k) × ((InByte 1 16 (length k) && (eqb (length k) (length k) && all_bytes k)) ≡ true)
key_from k f =
    let a = and_parts _ _ f in
    let b = and_parts _ _ a.0 in
    let low = leb-true 1 (length k) b.0 in
    let high = leb-true (length k) 16 b.1 in
    (refl, refl, and_from _ _ (in_byte 1 16 (length k) low high (omega arith)) (and_from _ _ (eq-eqb _ _ refl) a.1))

pub key_is : Codec key key_bytes (λ k. key_fits k && all_bytes k)
unfolding key
key_is =
    recoded (byte 1 16 >>= λ n. whole n) (λ (p : ℕ × List ℕ). p.1) (λ p. p.0 ∷ p.1) (λ p. InByte 1 16 p.0 && (eqb (length p.1) p.0 && all_bytes p.1))
    (λ (k : List ℕ). k) key_bytes (λ k. key_fits k && all_bytes k) (λ p. p.1) (λ k. (length k, k)) key_to key_from
    (chained (byte 1 16) (λ n. whole n) (λ n. n ∷ []) (InByte 1 16) (λ n b. b) (λ n b. b) (λ n b. eqb (length b) n && all_bytes b) (byte_is 1 16) (λ n. whole_is n))

-- ---- members

module _ {A : Type 0} (r : ℕ → Reader A) (above : A → ℕ) (s : A → List ℕ) (F : ℕ → A → Bool) where
  abbrev pub fit_from : ℕ → List A → Bool
  fit_from low [] = true
  fit_from low (x ∷ xs) = F low x && fit_from (above x) xs

  -- the first member and the others
  abbrev split : A → List A → A × List A
  split d [] = (d, [])
  split d (x ∷ xs) = (x, xs)

  to_list : (n low : ℕ) (p : A × List A) → (F low p.0 && (eqb (length p.1) n && fit_from (above p.0) p.1)) ≡ true → (p.0 ∷ p.1 ≡ p.0 ∷ p.1) × (flat_map s (p.0 ∷ p.1) ≡ s p.0 ++ flat_map s p.1) × ((eqb (length (p.0 ∷ p.1)) (suc n) && fit_from low (p.0 ∷ p.1)) ≡ true)
  to_list n low p f =
      let a = and_parts _ _ f in
      let b = and_parts _ _ a.1 in
      let size : suc (length p.1) ≡ suc n = ap suc (eqb-true (length p.1) n b.0) in
      (refl, refl, and_from (eqb (suc (length p.1)) (suc n)) (fit_from low (p.0 ∷ p.1)) (eq-eqb (suc (length p.1)) (suc n) size) (and_from (F low p.0) (fit_from (above p.0) p.1) a.0 b.1))

  from_list : (d : A) (n low : ℕ) (z : List A) → (eqb (length z) (suc n) && fit_from low z) ≡ true
      → ((split d z).0 ∷ (split d z).1 ≡ z) × (s (split d z).0 ++ flat_map s (split d z).1 ≡ flat_map s z) × ((F low (split d z).0 && (eqb (length (split d z).1) n && fit_from (above (split d z).0) (split d z).1)) ≡ true)
  from_list d n low [] f = absurd (let e : 0 ≡ suc n = eqb-true 0 (suc n) (and_parts _ _ f).0 in omega arith)
  from_list d n low (x ∷ xs) f =
      let a = and_parts _ _ f in
      let b = and_parts _ _ a.1 in
      let e : suc (length xs) ≡ suc n = eqb-true (suc (length xs)) (suc n) a.0 in
      let size : length xs ≡ n = omega arith in
      (refl, refl, and_from _ _ b.0 (and_from _ _ (eq-eqb (length xs) n size) b.1))

  none_again : (at : ℕ) (x : List A) → (eqb (length x) 0) ≡ true → Path (Result (List A × ℕ) ℕ) (Ok ([], at)) (Ok (x, at + length (flat_map s x)))
  none_again at [] f = ap (λ (n : ℕ). Ok ([], n)) (omega arith)
  none_again at (y ∷ ys) f = absurd (let e : suc (length ys) ≡ 0 = eqb-true (suc (length ys)) 0 f in omega arith)

  pub members_are : (d : A) → ((low : ℕ) → Codec (r low) s (F low)) → (n low : ℕ) → Codec (members r above low n) (flat_map s) (λ xs. eqb (length xs) n && fit_from low xs)
  unfolding members
  members_are d each zero low = record {
    takes = λ at bytes y next fits e.
        let same = ok_is {A = List A × ℕ} ([], at) (y, next) e in
        let place : at ≡ next = ap (λ (q : List A × ℕ). q.1) same in
        record { x = []; is = ap (λ (q : List A × ℕ). q.0) same; fits = refl; took = record { here = ap (λ (k : ℕ). drop k bytes) place; next_is = omega arith } };
    again = λ at bytes rest x fits h. none_again at x (and_parts _ _ fits).0;
  }
  members_are d each (suc n) low =
      recoded (r low >>= λ x. (members r above (above x) n >>= λ xs. done (x ∷ xs))) (λ (p : A × List A). p.0 ∷ p.1) (λ p. s p.0 ++ flat_map s p.1) (λ p. F low p.0 && (eqb (length p.1) n && fit_from (above p.0) p.1))
      (λ (xs : List A). xs) (flat_map s) (λ xs. eqb (length xs) (suc n) && fit_from low xs) (λ p. p.0 ∷ p.1) (split d) (to_list n low) (from_list d n low)
      (chained (r low) (λ x. (members r above (above x) n >>= λ xs. done (x ∷ xs))) s (F low) (λ x xs. x ∷ xs) (λ x xs. flat_map s xs) (λ x xs. eqb (length xs) n && fit_from (above x) xs) (each low)
      (λ x. last (members r above (above x) n) (flat_map s) (λ xs. eqb (length xs) n && fit_from (above x) xs) (λ xs. x ∷ xs) (members_are d each n (above x))))

-- ---- lists behind their count

-- so many members behind a count of two bytes
counted : {A : Type 0} (most : ℕ) (ms : ℕ → Reader (List A)) (s : A → List ℕ) (G : List A → Bool) → most < 2 ^ 16 → ((n : ℕ) → Codec (ms n) (flat_map s) (λ xs. eqb (length xs) n && G xs))
    → Codec (short 0 most >>= λ n. ms n) (λ xs. short_bytes (length xs) ++ flat_map s xs) (λ xs. leb (length xs) most && G xs)
counted {A} most ms s G few each =
    recoded (short 0 most >>= λ n. ms n) (λ (p : ℕ × List A). p.1) (λ p. short_bytes p.0 ++ flat_map s p.1) (λ p. (ltb p.0 (2 ^ 16) && (leb 0 p.0 && leb p.0 most)) && (eqb (length p.1) p.0 && G p.1))
    (λ (xs : List A). xs) (λ xs. short_bytes (length xs) ++ flat_map s xs) (λ xs. leb (length xs) most && G xs) (λ p. p.1) (λ xs. (length xs, xs))
    (λ p f.
    let a = and_parts _ _ f in
    let b = and_parts _ _ a.1 in
    let size : length p.1 ≡ p.0 = eqb-true (length p.1) p.0 b.0 in
    (refl, ap (λ (n : ℕ). short_bytes n ++ flat_map s p.1) size, and_from _ _ (ap (λ (n : ℕ). leb n most) size ∙ (and_parts _ _ (and_parts _ _ a.0).1).1) b.1))
    (λ xs f.
    let a = and_parts _ _ f in
    let short_enough : length xs ≤ most = leb-true (length xs) most a.0 in
    let in_width : length xs < 2 ^ 16 = omega arith in
    (refl, refl, and_from _ _ (and_from _ _ (lt-ltb (length xs) (2 ^ 16) in_width) (and_from _ _ (le-leb 0 (length xs) (omega arith)) a.0)) (and_from _ _ (eq-eqb _ _ refl) a.1)))
    (chained (short 0 most) (λ n. ms n) short_bytes (λ n. ltb n (2 ^ 16) && (leb 0 n && leb n most)) (λ n xs. xs) (λ n xs. flat_map s xs) (λ n xs. eqb (length xs) n && G xs) (short_is 0 most) each)

abbrev IsValue : ℕ → ℕ → Bool
IsValue low v = ltb v (2 ^ 64)

values_fit : (low : ℕ) (xs : List ℕ) → fit_from (λ _. value) (λ v. 0) value_bytes IsValue low xs ≡ all_values xs
values_fit low [] = refl
values_fit low (x ∷ xs) = ap (λ (b : Bool). ltb x (2 ^ 64) && b) (values_fit 0 xs)

values_are : (n : ℕ) → Codec (members (λ low. value) (λ v. 0) 0 n) (flat_map value_bytes) (λ xs. eqb (length xs) n && all_values xs)
values_are n =
    restated (members (λ low. value) (λ v. 0) 0 n) (λ (x : List ℕ). x) (flat_map value_bytes) (λ xs. eqb (length xs) n && fit_from (λ _. value) (λ v. 0) value_bytes IsValue 0 xs) (flat_map value_bytes) (λ xs. eqb (length xs) n && all_values xs)
    (λ xs. refl) (λ xs. ap (λ (b : Bool). eqb (length xs) n && b) (sym (values_fit 0 xs)))
    (members_are (λ _. value) (λ v. 0) value_bytes IsValue 0 (λ low. value_is) n 0)

pub cells_are : (most : ℕ) → most < 2 ^ 16 → Codec (cells most) cells_bytes (λ xs. leb (length xs) most && all_values xs)
unfolding cells
cells_are most few = counted most (members (λ low. value) (λ v. 0) 0) value_bytes all_values few values_are

-- ---- deltas

abbrev IsMember : ℕ → ℕ × ℕ → Bool
IsMember low d = (ltb d.0 (2 ^ 16) && (leb low d.0 && leb d.0 255)) && ltb d.1 (2 ^ 64)

member_is : (low : ℕ) → Codec (member low) member_bytes (IsMember low)
unfolding member
member_is low =
    chained (short low 255) (λ c. (value >>= λ v. done (c, v))) short_bytes (λ n. ltb n (2 ^ 16) && (leb low n && leb n 255)) (λ c v. (c, v)) (λ c v. value_bytes v) (λ c v. ltb v (2 ^ 64)) (short_is low 255)
    (λ c. last value value_bytes (λ v. ltb v (2 ^ 64)) (λ v. (c, v)) value_is)

abbrev next_cell : ℕ × ℕ → ℕ
next_cell d = d.0 + 1

abbrev delta_tests : Delta → Bool
delta_tests ds = (rising (cells_named ds) && list_all (λ c. ltb c 256) (cells_named ds)) && delta_in ds

member_parts : (low : ℕ) (d : ℕ × ℕ) → IsMember low d ≡ true → (low ≤ d.0) × (d.0 < 256) × (ltb d.1 (2 ^ 64) ≡ true)
member_parts low d f =
    let a = and_parts _ _ f in
    let b = and_parts _ _ (and_parts _ _ a.0).1 in
    let high : d.0 ≤ 255 = leb-true d.0 255 b.1 in
    (leb-true low d.0 b.0, omega arith, a.1)

is_member : (low : ℕ) (d : ℕ × ℕ) → low ≤ d.0 → d.0 < 256 → ltb d.1 (2 ^ 64) ≡ true → IsMember low d ≡ true
is_member low d l h v = and_from _ _ (and_from _ _ (lt-ltb d.0 (2 ^ 16) (omega arith)) (and_from _ _ (le-leb low d.0 l) (le-leb d.0 255 (omega arith)))) v

-- what three tests say of a delta
record Tested (ds : Delta) : Type 0 where
  rise : rising (cells_named ds) ≡ true
  below : list_all (λ c. ltb c 256) (cells_named ds) ≡ true
  values : delta_in ds ≡ true

tested_from : (low : ℕ) (ds : Delta) → fit_from member next_cell member_bytes IsMember low ds ≡ true → Tested ds
tested_from low [] f = record { rise = refl; below = refl; values = refl }
tested_from low (d ∷ []) f =
    let m = member_parts low d (and_parts _ _ f).0 in
    record { rise = refl; below = and_from _ _ (lt-ltb d.0 256 m.1) refl; values = and_from _ _ m.2 refl }
tested_from low (d ∷ e ∷ ds) f =
    let a = and_parts _ _ f in
    let m = member_parts low d a.0 in
    let n = member_parts (d.0 + 1) e (and_parts _ _ a.1).0 in
    let t = tested_from (d.0 + 1) (e ∷ ds) a.1 in
    record { rise = and_from _ _ (lt-ltb d.0 e.0 (omega (arith, n.0))) t.rise; below = and_from _ _ (lt-ltb d.0 256 m.1) t.below; values = and_from _ _ m.2 t.values }

fit_tested : (low : ℕ) (d : ℕ × ℕ) (ds : Delta) → low ≤ d.0 → Tested (d ∷ ds) → fit_from member next_cell member_bytes IsMember low (d ∷ ds) ≡ true
fit_tested low d [] l t = and_from _ _ (is_member low d l (ltb-true _ _ (and_parts _ _ t.below).0) (and_parts _ _ t.values).0) refl
fit_tested low d (e ∷ ds) l t =
    let r = and_parts _ _ t.rise in
    let b = and_parts _ _ t.below in
    let v = and_parts _ _ t.values in
    let up : d.0 < e.0 = ltb-true d.0 e.0 r.0 in
    and_from _ _ (is_member low d l (ltb-true _ _ b.0) v.0) (fit_tested (d.0 + 1) e ds (omega arith) (record { rise = r.1; below = b.1; values = v.1 }))

fit_all : (ds : Delta) → Tested ds → fit_from member next_cell member_bytes IsMember 0 ds ≡ true
fit_all [] t = refl
fit_all (d ∷ ds) t = fit_tested 0 d ds (omega arith) t

pub delta_are : Codec delta delta_bytes (λ ds. delta_fits ds && delta_in ds)
unfolding delta
delta_are =
    recoded (short 0 256 >>= λ n. members member next_cell 0 n) (λ (ds : Delta). ds) delta_bytes (λ ds. leb (length ds) 256 && fit_from member next_cell member_bytes IsMember 0 ds)
    (λ (ds : Delta). ds) delta_bytes (λ ds. delta_fits ds && delta_in ds) (λ ds. ds) (λ ds. ds)
    (λ ds f.
    let a = and_parts _ _ f in
    let t = tested_from 0 ds a.1 in
    (refl, refl, and_from _ _ (and_from _ _ a.0 (and_from _ _ t.rise t.below)) t.values))
    (λ ds f.
    let a = and_parts _ _ f in
    let b = and_parts _ _ a.0 in
    let c = and_parts _ _ b.1 in
    (refl, refl, and_from _ _ b.0 (fit_all ds (record { rise = c.0; below = c.1; values = a.1 }))))
    (counted 256 (members member next_cell 0) member_bytes (fit_from member next_cell member_bytes IsMember 0) (lit< tt) (λ n. members_are member next_cell member_bytes IsMember (0, 0) member_is n 0))
