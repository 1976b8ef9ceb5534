-- Fields that take their bits, one after the other.
use Rattle.std.specs.Prelude.{⊤, option_map}
use Rattle.std.proofs.Common.{◌≡◌, ◌≢◌, ℕ, zero, suc, ◌+◌, ◌-◌, ◌<◌, ◌≤◌, Bool, true, false, nat_le, if◌then◌else◌, List, [], length, take, drop, set, Option, Some, None, refl, sym, ap, ◌∙◌, subst, inl, inr, arith, add-one}
use Rattle.std.proofs.lemmas.Bool.{leb-true, leb-false, le-leb, lt-leb, cases_Bool}
use Rattle.std.proofs.lemmas.List.{length-drop, set_past, get_or_past, get_or-set_other}
use Rattle.rp_bits.specs.Bits.{number_of}
use Rattle.app_data.specs.declared.value.Value.{Value}
use Rattle.app_meaning.specs.Values.{cut, truth}
use Rattle.app_meaning.specs.Slots.{Scope, value_in}
use Rattle.app_meaning.specs.Assigning.{field_count}
use Rattle.app_meaning.specs.Packets.{Parsing, total_width, filled, valid_at, extract}
use Rattle.tree_parser.specs.Parsed.{field, fields}

abbrev IsField : Option (Value × List ℕ) → Type 0
IsField None = ⊥
IsField (Some f) = ⊤

abbrev or_nothing : Option (Value × List ℕ) → Value × List ℕ
or_nothing None = (cut 0 0, [])
or_nothing (Some f) = f

-- a value of the next bits, which there are
record Field (w : ℕ) (bits left : List ℕ) (v : Value) : Type 0 where
  there : w ≤ length bits
  value : v ≡ cut w (number_of (take w bits))
  behind : left ≡ drop w bits

field_at : (t : Bool) (w : ℕ) (bits left : List ℕ) (v : Value) → nat_le w (length bits) ≡ t → ◌≡◌ {A = Option (Value × List ℕ)} (Some (v, left)) (if t then Some (cut w (number_of (take w bits)), drop w bits) else None) → Field w bits left v
field_at true w bits left v e is = record {
  there = leb-true w (length bits) e;
  value = ap (λ (x : Option (Value × List ℕ)). (or_nothing x).0) is;
  behind = ap (λ (x : Option (Value × List ℕ)). (or_nothing x).1) is;
}
field_at false w bits left v e is = absurd (subst IsField is tt)

le_split : (w t n : ℕ) → w ≤ n → nat_le (w + t) n ≡ nat_le t (n - w)
le_split w t n le = elim (cases_Bool (nat_le t (n - w))) as (λ _. nat_le (w + t) n ≡ nat_le t (n - w)) [
  | inl e ↦ le-leb (w + t) n (omega (arith, le, leb-true t (n - w) e)) ∙ sym e
  | inr e ↦ lt-leb (w + t) n (omega (arith, leb-false t (n - w) e)) ∙ sym e
]

total_set : (k j i : ℕ) (values : List Value) (v : Value) → i < j → total_width k j (set values i v) ≡ total_width k j values
total_set zero j i values v lt = refl
total_set (suc k) j i values v lt =
    let apart : j ≢ i = λ e. omega (arith, lt, e) in
    let other : value_in (set values i v) j ≡ value_in values j = get_or-set_other values i j v (cut 0 0) apart in
    let rest : total_width k (suc j) (set values i v) ≡ total_width k (suc j) values = total_set k (suc j) i values v (omega (arith, lt)) in
    λ x. (other x).width + rest x

-- the first of some fields took its bits
pub fields_more : (k i : ℕ) (values : List Value) (left : List ℕ) (v : Value) (rest : List ℕ) → 0 < k → Some (v, rest) ≡ field (value_in values i).width left
    → fields (k - 1) (i + 1) (record { values = set values i v; left = rest }) ≡ fields k i (record { values = values; left = left })
fields_more zero i values left v rest some is = absurd (omega (arith, some))
fields_more (suc k) i values left v rest some is =
    let less : suc k - 1 ≡ k = omega arith in
    let w : ℕ = (value_in values i).width in
    let f : Field w left rest v = field_at (nat_le w (length left)) w left rest v refl is in
    let new : List Value = set values i (cut w (number_of (take w left))) in
    let turned : fields k (suc i) (record { values = set values i v; left = rest }) ≡ fields k (suc i) (record { values = new; left = drop w left }) =
    λ x. fields k (suc i) (record { values = set values i (f.value x); left = f.behind x }) in
    let tests : nat_le (total_width k (suc i) new) (length (drop w left)) ≡ nat_le (w + total_width k (suc i) values) (length left) =
    ap (λ (t : ℕ). nat_le t (length (drop w left))) (total_set k (suc i) i values (cut w (number_of (take w left))) (omega arith))
    ∙ ap (λ (n : ℕ). nat_le (total_width k (suc i) values) n) (length-drop w left)
    ∙ sym (le_split w (total_width k (suc i) values) (length left) f.there) in
    let step : fields k (suc i) (record { values = new; left = drop w left }) ≡ fields (suc k) i (record { values = values; left = left }) =
    ap (λ (b : Bool). if b then Some (filled k (suc i) (record { values = new; left = drop w left })) else None) tests in
    rw (less, add-one) (turned ∙ step)

total_past : (k i : ℕ) (values : List Value) → length values ≤ i → total_width k i values ≡ 0
total_past zero i values past = refl
total_past (suc k) i values past =
    let none : (value_in values i).width ≡ 0 = ap (λ (v : Value). v.width) (get_or_past values i (cut 0 0) past) in
    let rest : total_width k (suc i) values ≡ 0 = total_past k (suc i) values (omega (arith, past)) in
    omega (arith, none, rest)

filled_past : (k i : ℕ) (values : List Value) (left : List ℕ) → length values ≤ i → filled k i (record { values = values; left = left }) ≡ record { values = values; left = left }
filled_past zero i values left past = refl
filled_past (suc k) i values left past =
    let w : ℕ = (value_in values i).width in
    let none : w ≡ 0 = ap (λ (v : Value). v.width) (get_or_past values i (cut 0 0) past) in
    let same : set values i (cut w (number_of (take w left))) ≡ values = set_past values i (cut w (number_of (take w left))) past in
    let all : drop w left ≡ left = ap (λ (n : ℕ). drop n left) none in
    (λ x. filled k (suc i) (record { values = same x; left = all x })) ∙ filled_past k (suc i) values left (omega (arith, past))

-- past the end of the values no field takes a bit
pub fields_past : (k i : ℕ) (values : List Value) (left : List ℕ) → length values ≤ i → fields k i (record { values = values; left = left }) ≡ Some (record { values = values; left = left })
fields_past k i values left past =
    let p : Parsing = record { values = values; left = left } in
    let test : nat_le (total_width k i values) (length left) ≡ true = ap (λ (t : ℕ). nat_le t (length left)) (total_past k i values past) ∙ le-leb 0 (length left) (omega arith) in
    ap (λ (b : Bool). if b then Some (filled k i p) else None) test ∙ ap (λ (q : Parsing). Some q) (filled_past k i values left past)

extract_at : (b : Bool) (h : ℕ) (p : Parsing) → (if b then Some (valid_at h p) else None) ≡ option_map (valid_at h) (if b then Some p else None)
extract_at true h p = refl
extract_at false h p = refl

-- a header's fields, and its validity
pub extract_is : (sc : Scope) (h : ℕ) (p : Parsing) → extract sc (Some h) p ≡ option_map (valid_at h) (fields (field_count sc h) (h + 1) p)
extract_is sc h p = rw (add-one) (extract_at (nat_le (total_width (field_count sc h) (suc h) p.values) (length p.left)) h (filled (field_count sc h) (suc h) p))

-- a header past the end takes no bits
pub extract_past : (sc : Scope) (h : ℕ) (values : List Value) (left : List ℕ) → length values ≤ h → extract sc (Some h) (record { values = values; left = left }) ≡ Some (record { values = values; left = left })
extract_past sc h values left past =
    let same : set values h (truth true) ≡ values = set_past values h (truth true) past in
    extract_is sc h (record { values = values; left = left })
    ∙ ap (λ (o : Option Parsing). option_map (valid_at h) o) (fields_past (field_count sc h) (h + 1) values left (omega (arith, past)))
    ∙ (λ x. Some (record { values = same x; left = left }))
