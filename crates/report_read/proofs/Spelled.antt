-- Words as they are spelled: each is read again as what it says, and has no byte that ends a word or a line.
use Rattle.std.proofs.Common.{◌≡◌, ℕ, zero, suc, ◌+◌, ◌-◌, ◌*◌, ◌/◌, ◌%◌, ◌^◌, ◌<◌, ◌≤◌, List, [], ◌∷◌, ◌++◌, Bool, true, false, ◌&&◌, nat_le, nat_lt, length, length-append, get_or, decimal, refl, arith, Ok, inl, inr}
use Rattle.std.specs.Prelude.{slice_index, codes, bytes_eq, ◌==◌, nat_eq}
use Rattle.std.specs.List.{list_all}
use Rattle.std.proofs.lemmas.Bool.{and_parts, cases_lt}
use Rattle.std.proofs.lemmas.Fmt.{decimal_by_steps, decimal_digit, first_decimal}
use Rattle.std.proofs.lemmas.List.Folds.{list_all-append}
use Rattle.std.proofs.lemmas.List.Sums.{fold_push}
use Rattle.hex.specs.Hex.{IsBytes, encode_lower, encode_with, lower_digits}
use Rattle.hex.proofs.HexLemmas.{decode_of-encode_lower}
use Rattle.rp_base.specs.declared.event.DropCause.{DropCause}
use Rattle.rp_base.specs.declared.event.Lost.{Lost}
use Rattle.rp_base.specs.declared.event.Refusal.{Refusal}
use Rattle.rp_base.specs.declared.node.Node.{Node}
use Rattle.run_report.specs.Words.{hex_text}
use Rattle.run_report.specs.Names.{node_name, drop_name, lost_name, refusal_name}
use Rattle.report_read.specs.Values.{is_digit, is_decimal, value_of, number_below, number, port, is_lower_digit, some_bytes, key, output, node, drop_cause, lost_cause, refusal}
use Rattle.report_read.specs.Printed.{IsKey, IsNumber, IsOutput, IsStrict, TakesDatagrams}

-- each byte is above the space
abbrev pub IsWord : List ℕ → Bool
IsWord word = list_all (nat_lt 32) word

-- ---- numbers

-- digits that spell this number
pub record Spells (n : ℕ) (ds : List ℕ) : Type 0 where
  pub value : value_of ds ≡ n
  pub digits : list_all is_digit ds ≡ true
  pub some : 0 < length ds

digit-is : (d : ℕ) → d < 10 → is_digit (48 + d) ≡ true
digit-is d h = grind (arith, h)

pub spells : (n : ℕ) → n < 2 ^ 64 → Spells n (decimal n)
spells = decimal_by_steps Spells
    (λ n below. record { value = omega arith; digits = rw (digit-is n below) refl; some = omega arith })
    (λ n ds large h.
    let step : value_of (ds ++ (48 + n % 10) ∷ []) ≡ value_of ds * 10 + ((48 + n % 10) - 48) = fold_push (λ m b. m * 10 + (b - 48)) 0 ds (48 + n % 10) in
    record {
      value = omega (arith, step, h.value);
      digits = rw (list_all-append is_digit ds ((48 + n % 10) ∷ []), h.digits, digit-is (n % 10) (omega arith)) refl;
      some = omega (arith, length-append ds ((48 + n % 10) ∷ []));
    })

decimal-from : (ds : List ℕ) → list_all is_digit ds ≡ true → 48 < get_or ds 0 0 → is_decimal ds ≡ true
decimal-from [] digits first = absurd (omega (arith, first))
decimal-from (b ∷ []) digits first = (and_parts (is_digit b) true digits).0
decimal-from (b ∷ c ∷ bs) digits first = let other : (b == 48) ≡ false = grind (arith, first) in rw (other, digits) refl

is-decimal : (n : ℕ) → n < 2 ^ 64 → is_decimal (decimal n) ≡ true
is-decimal zero h = rw (decimal_digit zero (omega arith)) refl
is-decimal (suc n) h = decimal-from (decimal (suc n)) (spells (suc n) h).digits (first_decimal (suc n) (omega arith) h)

pub number_below-decimal : (end n : ℕ) → n < end → n < 18446744073709551616 → number_below end (decimal n) ≡ Ok n
number_below-decimal end n below fits =
    let value = (spells n (omega (arith, fits))).value in
    let less : nat_lt n end ≡ true = grind (arith, below) in
    rw (is-decimal n (omega (arith, fits)), value, less) refl

pub number-decimal : (n : ℕ) → IsNumber n → number (decimal n) ≡ Ok n
number-decimal n h = number_below-decimal 18446744073709551616 n h h

pub port-decimal : (n : ℕ) → n < 65536 → port (decimal n) ≡ Ok n
port-decimal n h = number_below-decimal 65536 n h (omega (arith, h))

list_all-weaker : (p q : ℕ → Bool) (xs : List ℕ) → ((x : ℕ) → p x ≡ true → q x ≡ true) → list_all p xs ≡ true → list_all q xs ≡ true
list_all-weaker p q [] h all = refl
list_all-weaker p q (x ∷ xs) h all =
    let parts = and_parts (p x) (list_all p xs) all in
    rw (h x parts.0, list_all-weaker p q xs h parts.1) refl

above-digit : (b : ℕ) → is_digit b ≡ true → nat_lt 32 b ≡ true
above-digit b h = grind (arith, h)

above-lower : (b : ℕ) → is_lower_digit b ≡ true → nat_lt 32 b ≡ true
above-lower b h = grind (arith, h)

pub word-decimal : (n : ℕ) → IsNumber n → IsWord (decimal n) ≡ true
word-decimal n h = list_all-weaker is_digit (nat_lt 32) (decimal n) above-digit (spells n (omega (arith, h))).digits

-- ---- bytes

-- the first n digits are in lower case
abbrev lower_until : ℕ → Bool
lower_until zero = true
lower_until (suc n) = is_lower_digit (slice_index lower_digits n) && lower_until n

lower-at : (n k : ℕ) → lower_until n ≡ true → k < n → is_lower_digit (slice_index lower_digits k) ≡ true
lower-at zero k h lt = absurd (omega (arith, lt))
lower-at (suc n) k h lt =
    let parts = and_parts (is_lower_digit (slice_index lower_digits n)) (lower_until n) h in
    elim (cases_lt k n) [
      | inl below ↦ lower-at n k parts.1 below
      | inr top ↦
          let e : k ≡ n = omega (arith, lt, top) in
          rw e parts.0
    ]

lower-digit : (d : ℕ) → d < 16 → is_lower_digit (slice_index lower_digits d) ≡ true
lower-digit d h = lower-at 16 d refl h

pub lower-encode : (bs : List ℕ) → IsBytes bs → list_all is_lower_digit (encode_lower bs) ≡ true
unfolding encode_with
lower-encode [] h = refl
lower-encode (b ∷ bs) h =
    let fits : b < 256 = h 0 in
    rw (lower-digit (b / 16) (omega (arith, fits)), lower-digit (b % 16) (omega arith), lower-encode bs (λ k. h (suc k))) refl

pub word-encode : (bs : List ℕ) → IsBytes bs → IsWord (encode_lower bs) ≡ true
word-encode bs h = list_all-weaker is_lower_digit (nat_lt 32) (encode_lower bs) above-lower (lower-encode bs h)

some_bytes-encode : (most : ℕ) (bs : List ℕ) → IsBytes bs → 1 ≤ length bs → length bs ≤ most → some_bytes most (encode_lower bs) ≡ Ok bs
some_bytes-encode most bs h some fits =
    let least : nat_le 1 (length bs) ≡ true = grind (arith, some) in
    let below : nat_le (length bs) most ≡ true = grind (arith, fits) in
    rw (lower-encode bs h, decode_of-encode_lower bs h, least, below) refl

pub key-encode : (bs : List ℕ) → IsKey bs → key (encode_lower bs) ≡ Ok bs
key-encode bs h = some_bytes-encode 16 bs h.2 h.0 h.1

-- the text of some bytes isn't that of none
pub not-dash : (b : ℕ) (bs : List ℕ) → bytes_eq (encode_lower (b ∷ bs)) (codes "-") ≡ false
unfolding encode_with
not-dash b bs = and-false (nat_eq (slice_index lower_digits (b / 16)) 45)
  where
    and-false : (t : Bool) → (t && false) ≡ false
    and-false true = refl
    and-false false = refl

pub output-hex : (bs : List ℕ) → IsOutput bs → output (hex_text bs) ≡ Ok bs
output-hex [] h = refl
output-hex (b ∷ bs) h = rw (not-dash b bs) (some_bytes-encode 1500 (b ∷ bs) h.1 (omega arith) h.0)

pub word-hex : (bs : List ℕ) → IsBytes bs → IsWord (hex_text bs) ≡ true
word-hex [] h = refl
word-hex (b ∷ bs) h = word-encode (b ∷ bs) h

-- ---- names

pub drop_cause-name : (cause : DropCause) → IsStrict cause → drop_cause (drop_name cause) ≡ Ok cause
drop_cause-name DropCause.Full h = refl
drop_cause-name DropCause.Mirror h = refl
drop_cause-name DropCause.Late h = refl
drop_cause-name DropCause.Busy h = refl
drop_cause-name DropCause.Bound h = absurd h

pub word-drop : (cause : DropCause) → IsWord (drop_name cause) ≡ true
word-drop DropCause.Full = refl
word-drop DropCause.Mirror = refl
word-drop DropCause.Late = refl
word-drop DropCause.Busy = refl
word-drop DropCause.Bound = refl

pub lost_cause-name : (cause : Lost) → lost_cause (lost_name cause) ≡ Ok cause
lost_cause-name Lost.Stale = refl
lost_cause-name Lost.Role = refl
lost_cause-name Lost.Gap = refl
lost_cause-name Lost.Pending = refl
lost_cause-name Lost.Config = refl
lost_cause-name Lost.Order = refl

pub word-lost : (cause : Lost) → IsWord (lost_name cause) ≡ true
word-lost Lost.Stale = refl
word-lost Lost.Role = refl
word-lost Lost.Gap = refl
word-lost Lost.Pending = refl
word-lost Lost.Config = refl
word-lost Lost.Order = refl

pub refusal-name : (cause : Refusal) → refusal (refusal_name cause) ≡ Ok cause
refusal-name Refusal.FramesFull = refl
refusal-name Refusal.Nowhere = refl
refusal-name Refusal.Dead = refl
refusal-name Refusal.NoFrame = refl
refusal-name Refusal.NoneLeft = refl
refusal-name Refusal.Rates = refl
refusal-name Refusal.LastReplica = refl
refusal-name Refusal.Alive = refl
refusal-name Refusal.Known = refl
refusal-name Refusal.Linked = refl
refusal-name Refusal.NoLink = refl

pub word-refusal : (cause : Refusal) → IsWord (refusal_name cause) ≡ true
word-refusal Refusal.FramesFull = refl
word-refusal Refusal.Nowhere = refl
word-refusal Refusal.Dead = refl
word-refusal Refusal.NoFrame = refl
word-refusal Refusal.NoneLeft = refl
word-refusal Refusal.Rates = refl
word-refusal Refusal.LastReplica = refl
word-refusal Refusal.Alive = refl
word-refusal Refusal.Known = refl
word-refusal Refusal.Linked = refl
word-refusal Refusal.NoLink = refl

pub node-name : (n : Node) → TakesDatagrams n → node (node_name n) ≡ Ok n
node-name (Node.Switch n) h =
    let within : nat_le (48 + n) 55 ≡ true = grind (arith, h) in
    let least : nat_le 48 (48 + n) ≡ true = grind arith in
    let back : (48 + n) - 48 ≡ n = omega arith in
    rw (decimal_digit n (omega (arith, h)), least, within, back) refl
node-name (Node.Replica n) h =
    let within : nat_le (48 + n) 52 ≡ true = grind (arith, h) in
    let least : nat_le 48 (48 + n) ≡ true = grind arith in
    let back : (48 + n) - 48 ≡ n = omega arith in
    rw (decimal_digit n (omega (arith, h)), least, within, back) refl
node-name Node.Master h = absurd h

pub word-node : (n : Node) → TakesDatagrams n → IsWord (node_name n) ≡ true
word-node (Node.Switch n) h = let above : nat_lt 32 (48 + n) ≡ true = grind arith in rw (decimal_digit n (omega (arith, h)), above) refl
word-node (Node.Replica n) h = let above : nat_lt 32 (48 + n) ≡ true = grind arith in rw (decimal_digit n (omega (arith, h)), above) refl
word-node Node.Master h = absurd h
