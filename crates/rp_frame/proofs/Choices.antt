-- Parts that begin with the byte of their sort are read as they are spelled.
use Rattle.std.proofs.Common.{◌≡◌, ℕ, ◌+◌, ◌^◌, ◌≤◌, ◌<◌, List, [], ◌∷◌, ◌++◌, length, drop, Bool, true, cond, leb, ltb, eqb, ◌&&◌, Option, Some, None, Result, Ok, arith, refl, sym, ap, subst, ◌∙◌}
use Rattle.std.proofs.lemmas.Bool.{cond_both, ltb-true, lt-ltb, leb-true, le-leb, eqb-true, eqb-false, eq-eqb, and_parts, and_from}
use Rattle.rp_app.specs.Application.{Delta}
use Rattle.proto_data.specs.declared.message.Carried.{Carried}
use Rattle.proto_data.specs.MessageFits.{is_u32, key_fits, load_fits, mark_fits, delta_fits}
use Rattle.rp_frame.specs.Ranges.{all_bytes, all_values, delta_in, load_in}
use Rattle.rp_frame.specs.Spelling.{number_bytes, short_bytes, key_bytes, cells_bytes, delta_bytes, carried_bytes, load_bytes, mark_bytes}
use Rattle.rp_frame.specs.Reading.{Reader, and_then, ◌>>=◌, done, whole, number, short, byte, key, cells, delta, carried, load, mark}
use Rattle.rp_frame.proofs.Codecs.{IsBytes, Took, Codec, Took-then, behind, and_then_ok, ok_is, chained, last, recoded, restated, whole_is}
use Rattle.rp_frame.proofs.PartCodecs.{InByte, byte_is, byte_bounds, number_is, short_is, key_is, cells_are, delta_are}
use Rattle.rp_frame.proofs.Forms.{Field, Form, form1, more, Chosen, chosen}

pub tagged : {B : Type 0} (low high : ℕ) (g : ℕ → Reader B) (tag : B → ℕ) (t : B → List ℕ) (G : B → Bool)
    → ((k at : ℕ) (bytes : List ℕ) (y : B) (next : ℕ) → IsBytes bytes → low ≤ k → k ≤ high → g k at bytes ≡ Ok (y, next) → Chosen tag t G k at bytes y next)
    → ((at : ℕ) (bytes rest : List ℕ) (y : B) → G y ≡ true → drop at bytes ≡ t y ++ rest → g (tag y) at bytes ≡ Ok (y, at + length (t y)))
    → ((y : B) → InByte low high (tag y) ≡ true)
    → Codec (byte low high >>= g) (λ y. tag y ∷ t y) G
tagged {B} low high g tag t G takes again sorts = record {
  takes = λ at bytes y next fits e.
      let b = and_then_ok (byte low high at bytes) (λ x. g x.0 x.1 bytes) (y, next) e in
      let one = (byte_is low high).takes at bytes b.0.0 b.0.1 fits b.1 in
      let bounds = byte_bounds low high b.0.0 (subst (λ (x : ℕ). InByte low high x ≡ true) one.is one.fits) in
      let two = takes b.0.0 b.0.1 bytes y next fits bounds.0 bounds.1 b.2 in
      let front : Took at bytes (tag y ∷ []) b.0.1 = subst (λ (x : ℕ). Took at bytes (x ∷ []) b.0.1) (one.is ∙ sym two.sort) one.took in
      record { x = y; is = refl; fits = two.fits; took = Took-then at b.0.1 next bytes (tag y ∷ []) (t y) front two.took };
  again = λ at bytes rest y fits h.
      let one = (byte_is low high).again at bytes (t y ++ rest) (tag y) (sorts y) h in
      let two = again (at + 1) bytes rest y fits (behind at bytes (tag y ∷ []) (t y ++ rest) h) in
      let place : (at + 1) + length (t y) ≡ at + length (tag y ∷ t y) = omega arith in
      ap (λ (q : Result (ℕ × ℕ) ℕ). and_then q (λ x. g x.0 x.1 bytes)) one ∙ two ∙ ap (λ (n : ℕ). Ok (y, n)) place;
}

abbrev nothing : {B : Type 0} (b : B) → Form B
nothing {B} b = record {
  A = Unit {0};
  r = done b;
  C = λ u. b;
  s = λ u. [];
  F = λ u. true;
  is = record {
    takes = λ at bytes y next fits e.
        let same = ok_is (b, at) (y, next) e in
        let place : at ≡ next = ap (λ (q : B × ℕ). q.1) same in
        record { x = tt; is = ap (λ (q : B × ℕ). q.0) same; fits = refl; took = record { here = ap (λ (k : ℕ). drop k bytes) place; next_is = omega arith } };
    again = λ at bytes rest x fits h. ap (λ (n : ℕ). Ok (b, n)) (omega arith);
  };
}

-- ---- fields

abbrev pub num : Field ℕ
num = record { r = number; s = number_bytes; F = is_u32; is = number_is }

abbrev pub KeyTest : List ℕ → Bool
KeyTest k = key_fits k && all_bytes k

abbrev pub key_field : Field (List ℕ)
key_field = record { r = key; s = key_bytes; F = KeyTest; is = key_is }

abbrev pub switch_field : Field ℕ
switch_field = record { r = byte 0 7; s = λ n. n ∷ []; F = InByte 0 7; is = byte_is 0 7 }

abbrev pub DeltaTest : Delta → Bool
DeltaTest ds = delta_fits ds && delta_in ds

abbrev pub delta_field : Field Delta
delta_field = record { r = delta; s = delta_bytes; F = DeltaTest; is = delta_are }

abbrev pub CellsTest : ℕ → List ℕ → Bool
CellsTest most xs = leb (length xs) most && all_values xs

abbrev pub cells_field : (most : ℕ) → most < 2 ^ 16 → Field (List ℕ)
cells_field most few = record { r = cells most; s = cells_bytes; F = CellsTest most; is = cells_are most few }

-- ---- loads

abbrev made : ℕ → ℕ → List ℕ → Carried
made m p b = record { mark = m; port = p; bytes = b }

abbrev ShortTest : ℕ → ℕ → Bool
ShortTest high n = ltb n (2 ^ 16) && (leb 0 n && leb n high)

abbrev text_form : ℕ → ℕ → Form Carried
text_form m p =
    record {
      A = ℕ × List ℕ;
      r = short 0 1500 >>= λ n. (whole n >>= λ b. done (made m p b));
      C = λ q. made m p q.1;
      s = λ q. short_bytes q.0 ++ q.1;
      F = λ q. ShortTest 1500 q.0 && (eqb (length q.1) q.0 && all_bytes q.1);
      is = chained (short 0 1500) (λ n. (whole n >>= λ b. done (made m p b))) short_bytes (ShortTest 1500) (λ n b. made m p b) (λ n b. b) (λ n b. eqb (length b) n && all_bytes b) (short_is 0 1500)
          (λ n. last (whole n) (λ b. b) (λ b. eqb (length b) n && all_bytes b) (made m p) (whole_is n));
    }

abbrev port_field : Field ℕ
port_field = record { r = short 0 65535; s = short_bytes; F = ShortTest 65535; is = short_is 0 65535 }

abbrev port_form : ℕ → Form Carried
port_form m = more port_field (ℕ × List ℕ) (λ p. (text_form m p).r) (λ p q. made m p q.1) (λ q. short_bytes q.0 ++ q.1) (λ q. ShortTest 1500 q.0 && (eqb (length q.1) q.0 && all_bytes q.1)) (λ p. (text_form m p).is)

abbrev carried_form : Form Carried
carried_form =
    more num (ℕ × (ℕ × List ℕ)) (λ m. (port_form m).r) (λ m q. made m q.0 q.1.1) (λ q. short_bytes q.0 ++ (short_bytes q.1.0 ++ q.1.1))
    (λ q. ShortTest 65535 q.0 && (ShortTest 1500 q.1.0 && (eqb (length q.1.1) q.1.0 && all_bytes q.1.1))) (λ m. (port_form m).is)

abbrev CarriedTest : Carried → Bool
CarriedTest c = (is_u32 c.mark && (ltb c.port 65536 && leb (length c.bytes) 1500)) && all_bytes c.bytes

carried_is : Codec carried carried_bytes CarriedTest
unfolding carried
carried_is =
    recoded carried_form.r carried_form.C carried_form.s carried_form.F (λ (c : Carried). c) carried_bytes CarriedTest carried_form.C (λ c. (c.mark, (c.port, (length c.bytes, c.bytes))))
    (λ p f.
    let a = and_parts _ _ f in
    let b = and_parts _ _ a.1 in
    let c = and_parts _ _ b.1 in
    let d = and_parts _ _ c.1 in
    let size : length p.1.1.1 ≡ p.1.1.0 = eqb-true (length p.1.1.1) p.1.1.0 d.0 in (
      refl,
      ap (λ (n : ℕ). number_bytes p.0 ++ (short_bytes p.1.0 ++ (short_bytes n ++ p.1.1.1))) size,
      and_from _ _ (and_from _ _ a.0 (and_from _ _ (and_parts _ _ b.0).0 (ap (λ (n : ℕ). leb n 1500) size ∙ (and_parts _ _ (and_parts _ _ c.0).1).1))) d.1,
    ))
    (λ c f.
    let a = and_parts _ _ f in
    let b = and_parts _ _ a.0 in
    let d = and_parts _ _ b.1 in
    let port : c.port < 65536 = ltb-true c.port 65536 d.0 in
    let size : length c.bytes ≤ 1500 = leb-true (length c.bytes) 1500 d.1 in (
      refl,
      refl,
      and_from _ _ b.0 (and_from _ _ (and_from _ _ d.0 (and_from _ _ (le-leb 0 c.port (omega arith)) (le-leb c.port 65535 (omega arith))))
          (and_from _ _ (and_from _ _ (lt-ltb (length c.bytes) (2 ^ 16) (omega arith)) (and_from _ _ (le-leb 0 (length c.bytes) (omega arith)) d.1)) (and_from _ _ (eq-eqb _ _ refl) a.1))),
    ))
    carried_form.is

abbrev carried_field : Field Carried
carried_field = record { r = carried; s = carried_bytes; F = CarriedTest; is = carried_is }

abbrev flag_of : {A : Type 0} → Option A → ℕ
flag_of None = 0
flag_of (Some x) = 1

-- something or nothing behind a flag
module _ {A : Type 0} (a : Field A) where
  abbrev text_of : Option A → List ℕ
  text_of None = []
  text_of (Some x) = a.s x

  abbrev test_of : Option A → Bool
  test_of None = true
  test_of (Some x) = a.F x

  abbrev by_flag : ℕ → Reader (Option A)
  by_flag k = cond (eqb k 0) (done None) (a.r >>= λ x. done (Some x))

  flag_takes : (k at : ℕ) (bytes : List ℕ) (y : Option A) (next : ℕ) → IsBytes bytes → 0 ≤ k → k ≤ 1 → by_flag k at bytes ≡ Ok (y, next) → Chosen flag_of text_of test_of k at bytes y next
  flag_takes k at bytes y next fits low high =
      cond_both (eqb k 0) (done None) (a.r >>= λ x. done (Some x)) (λ (r : Reader (Option A)). r at bytes ≡ Ok (y, next) → Chosen flag_of text_of test_of k at bytes y next)
      (λ z e. chosen (nothing None) flag_of text_of test_of k at bytes y next (λ u. sym (eqb-true k 0 z)) (λ u. refl) (λ u f. refl) fits e)
      (λ z e. let apart : k ≡ 0 → ⊥ = eqb-false k 0 z in let one : 1 ≡ k = omega arith in chosen (form1 a Some) flag_of text_of test_of k at bytes y next (λ x. one) (λ x. refl) (λ x f. f) fits e)

  flag_again : (at : ℕ) (bytes rest : List ℕ) (y : Option A) → test_of y ≡ true → drop at bytes ≡ text_of y ++ rest → by_flag (flag_of y) at bytes ≡ Ok (y, at + length (text_of y))
  flag_again at bytes rest None f h = ap (λ (n : ℕ). Ok (None, n)) (omega arith)
  flag_again at bytes rest (Some x) f h = (form1 a Some).is.again at bytes rest x f h

  flag_sorts : (y : Option A) → InByte 0 1 (flag_of y) ≡ true
  flag_sorts None = refl
  flag_sorts (Some x) = refl

  pub optional_is : Codec (byte 0 1 >>= by_flag) (λ y. flag_of y ∷ text_of y) test_of
  optional_is = tagged 0 1 by_flag flag_of text_of test_of flag_takes flag_again flag_sorts

abbrev pub LoadTest : Option Carried → Bool
LoadTest l = load_fits l && load_in l

load_text : (l : Option Carried) → load_bytes l ≡ flag_of l ∷ text_of carried_field l
load_text None = refl
load_text (Some c) = refl

load_test : (l : Option Carried) → LoadTest l ≡ test_of carried_field l
load_test None = refl
load_test (Some c) = refl

pub load_is : Codec load load_bytes LoadTest
unfolding load
load_is = restated (byte 0 1 >>= by_flag carried_field) (λ (l : Option Carried). l) (λ l. flag_of l ∷ text_of carried_field l) (test_of carried_field) load_bytes LoadTest load_text load_test (optional_is carried_field)

mark_text : (m : Option ℕ) → mark_bytes m ≡ flag_of m ∷ text_of num m
mark_text None = refl
mark_text (Some n) = refl

mark_test : (m : Option ℕ) → mark_fits m ≡ test_of num m
mark_test None = refl
mark_test (Some n) = refl

pub mark_is : Codec mark mark_bytes mark_fits
unfolding mark
mark_is = restated (byte 0 1 >>= by_flag num) (λ (m : Option ℕ). m) (λ m. flag_of m ∷ text_of num m) (test_of num) mark_bytes mark_fits mark_text mark_test (optional_is num)
