-- Numbers, bytes and their bits.
use Rattle.std.proofs.Common.{◌≡◌, ℕ, zero, suc, ◌+◌, ◌-◌, ◌*◌, ◌/◌, ◌%◌, ◌^◌, ◌<◌, ◌≤◌, List, [], ◌∷◌, ◌++◌, length, fold, get_or, drop, take, refl, sym, ap, ◌∙◌, arith, Ok, Err, append-nil, drop-cons, add-one, subst}
use Rattle.std.proofs.lemmas.List.{length-append, append_assoc, drop_all, drop-drop}
use Rattle.std.proofs.Math.Nat.{add-mul, mul_assoc, pow-suc, pow-succ'}
use Rattle.std.proofs.lemmas.Nat.{mod-pow-add}
use Rattle.std.proofs.lemmas.Nat.Bits.{bit_at-suc}
use Rattle.std.proofs.Math.Pow.{pow_mono}
use Rattle.std.proofs.lemmas.Bool.{lt-ltb, le-ltb}
use Rattle.rp_bits.specs.Bits.{digits, number_of, bits_of, bytes_of, taken}

abbrev shift_in : ℕ → ℕ → ℕ
shift_in n bit = n * 2 + bit

pub length-digits : (w n : ℕ) → length (digits w n) ≡ w
length-digits zero n = refl
length-digits (suc w) n = ap (λ (k : ℕ). suc k) (length-digits w n)

pub length-bits : (bs : List ℕ) → length (bits_of bs) ≡ 8 * length bs
length-bits [] = refl
length-bits (b ∷ bs) = omega (arith, length-append (digits 8 b) (bits_of bs), length-digits 8 b, length-bits bs)

pub bits-append : (bs cs : List ℕ) → bits_of (bs ++ cs) ≡ bits_of bs ++ bits_of cs
bits-append [] cs = refl
bits-append (b ∷ bs) cs = ap (λ (xs : List ℕ). digits 8 b ++ xs) (bits-append bs cs)

pub number-digits : (w a n : ℕ) → fold shift_in a (digits w n) ≡ a * 2 ^ w + n % 2 ^ w
number-digits zero a n = omega arith
number-digits (suc w) a n =
    let rest : fold shift_in (a * 2 + n / 2 ^ w % 2) (digits w n) ≡ (a * 2 + n / 2 ^ w % 2) * 2 ^ w + n % 2 ^ w = number-digits w (a * 2 + n / 2 ^ w % 2) n in
    let parts : (a * 2 + n / 2 ^ w % 2) * 2 ^ w ≡ a * 2 * 2 ^ w + n / 2 ^ w % 2 * 2 ^ w = add-mul (a * 2) (n / 2 ^ w % 2) (2 ^ w) in
    let up : a * 2 * 2 ^ w ≡ a * 2 ^ suc w = mul_assoc a 2 (2 ^ w) ∙ ap (λ (x : ℕ). a * x) (sym (pow-succ' 2 w)) in
    let one : 1 + w ≡ suc w = omega arith in
    let split : n % 2 ^ suc w ≡ (n / 2 ^ w % 2) * 2 ^ w + n % 2 ^ w = subst (λ (k : ℕ). n % 2 ^ k ≡ (n / 2 ^ w % 2) * 2 ^ w + n % 2 ^ w) one (mod-pow-add n 1 w) in
    let all : (a * 2 + n / 2 ^ w % 2) * 2 ^ w + n % 2 ^ w ≡ a * 2 ^ suc w + n % 2 ^ suc w = omega (arith, parts, up, split) in
    rest ∙ all

-- a bit behind so many bits
pub digits-push : (u p b : ℕ) → b < 2 → digits (suc u) (p * 2 + b) ≡ digits u p ++ b ∷ []
digits-push zero p b lt = let e : (p * 2 + b) / 1 % 2 ≡ b = omega (arith, lt) in ap (λ (x : ℕ). x ∷ []) e
digits-push (suc u) p b lt =
    let half : (p * 2 + b) / 2 ≡ p = omega (arith, lt) in
    let first : (p * 2 + b) / 2 ^ suc u % 2 ≡ p / 2 ^ u % 2 = bit_at-suc (p * 2 + b) u ∙ ap (λ (x : ℕ). x / 2 ^ u % 2) half in
    λ i. first i ∷ digits-push u p b lt i

-- the bits of a byte are its number again
pub byte-again : (b : ℕ) → b < 256 → number_of (digits 8 b) ≡ b
byte-again b lt = number-digits 8 0 b ∙ omega (arith, lt)

few-bytes : (u p : ℕ) → u < 8 → bytes_of (digits u p) ≡ []
few-bytes zero p lt = refl
few-bytes (suc zero) p lt = refl
few-bytes (suc (suc zero)) p lt = refl
few-bytes (suc (suc (suc zero))) p lt = refl
few-bytes (suc (suc (suc (suc zero)))) p lt = refl
few-bytes (suc (suc (suc (suc (suc zero))))) p lt = refl
few-bytes (suc (suc (suc (suc (suc (suc zero)))))) p lt = refl
few-bytes (suc (suc (suc (suc (suc (suc (suc zero))))))) p lt = refl
few-bytes (suc (suc (suc (suc (suc (suc (suc (suc u)))))))) p lt = absurd (omega (arith, lt))

-- whole bytes and fewer than eight bits are those bytes again
pub bytes-again : (bs : List ℕ) (u p : ℕ) → u < 8 → ((i : ℕ) → get_or bs i 0 < 256) → bytes_of (bits_of bs ++ digits u p) ≡ bs
bytes-again [] u p lt fits = few-bytes u p lt
bytes-again (b ∷ bs) u p lt fits = λ i. byte-again b (fits 0) i ∷ bytes-again bs u p lt (λ k. fits (suc k)) i

eight : (k : ℕ) → suc (suc (suc (suc (suc (suc (suc (suc (8 * k)))))))) ≡ 8 * suc k
eight k = omega arith

-- bits without those of the first bytes
pub bits-drop : (k : ℕ) (bs : List ℕ) → bits_of (drop k bs) ≡ drop (8 * k) (bits_of bs)
bits-drop zero bs = refl
bits-drop (suc k) [] = sym (drop_all (8 * suc k) [] (omega arith))
bits-drop (suc k) (b ∷ bs) = bits-drop k bs ∙ ap (λ (n : ℕ). drop n (bits_of (b ∷ bs))) (eight k)

-- bit i of bytes
pub bit_of : (bs : List ℕ) (i : ℕ) → i < 8 * length bs → get_or (bits_of bs) i 0 ≡ get_or bs (i / 8) 0 / 2 ^ (7 - i % 8) % 2
bit_of [] i lt = absurd (omega (arith, lt))
bit_of (b ∷ bs) zero lt = refl
bit_of (b ∷ bs) (suc zero) lt = refl
bit_of (b ∷ bs) (suc (suc zero)) lt = refl
bit_of (b ∷ bs) (suc (suc (suc zero))) lt = refl
bit_of (b ∷ bs) (suc (suc (suc (suc zero)))) lt = refl
bit_of (b ∷ bs) (suc (suc (suc (suc (suc zero))))) lt = refl
bit_of (b ∷ bs) (suc (suc (suc (suc (suc (suc zero)))))) lt = refl
bit_of (b ∷ bs) (suc (suc (suc (suc (suc (suc (suc zero))))))) lt = refl
bit_of (b ∷ bs) (suc (suc (suc (suc (suc (suc (suc (suc i)))))))) lt =
    let place : suc (suc (suc (suc (suc (suc (suc (suc i))))))) / 8 ≡ suc (i / 8) = omega arith in
    let bit : suc (suc (suc (suc (suc (suc (suc (suc i))))))) % 8 ≡ i % 8 = omega arith in
    rw (place, bit) (bit_of bs i (omega (arith, lt)))

-- ---- reading

-- one bit more on top of so many
pub grows : (n k b : ℕ) → n < 2 ^ k → b < 2 → n * 2 + b < 2 ^ suc k
grows n k b lt bit = omega (arith, pow-suc 2 k, lt, bit)

pub fits_so_far : (n k b : ℕ) → n < 2 ^ k → b < 2 → k < 128 → n * 2 + b < 2 ^ 128
fits_so_far n k b lt bit few = let up : 2 ^ suc k ≤ 2 ^ 128 = pow_mono {i = suc k} {j = 128} (omega (arith, few)) in omega (arith, grows n k b lt bit, up)

pub one_more : (bits : List ℕ) (n at left : ℕ) → at < length bits → 0 < left
    → fold shift_in (n * 2 + get_or bits at 0) (take (left - 1) (drop (at + 1) bits)) ≡ fold shift_in n (take left (drop at bits))
one_more bits n at zero there some = absurd (omega (arith, some))
one_more bits n at (suc left) there some =
    let less : suc left - 1 ≡ left = omega arith in
    rw (less, add-one, drop-cons bits at 0 there) refl

pub short_is : (w : ℕ) (bits : List ℕ) (n : ℕ) → length bits ≡ n → n < w → taken w bits ≡ (bits, Err (record { left = n }))
short_is w bits n e lt = rw (e, lt-ltb n w lt) refl

pub enough_is : (w : ℕ) (bits : List ℕ) → w ≤ length bits → taken w bits ≡ (drop w bits, Ok (number_of (take w bits)))
enough_is w bits le = rw (le-ltb (length bits) w le) refl

pub moved : (bs : List ℕ) (used w : ℕ) → drop ((used + w) % 8) (bits_of (drop ((used + w) / 8) bs)) ≡ drop w (drop used (bits_of bs))
moved bs used w =
    let place : 8 * ((used + w) / 8) + (used + w) % 8 ≡ used + w = omega arith in
    ap (drop ((used + w) % 8)) (bits-drop ((used + w) / 8) bs)
    ∙ drop-drop ((used + w) % 8) (8 * ((used + w) / 8)) (bits_of bs)
    ∙ ap (λ (n : ℕ). drop n (bits_of bs)) place
    ∙ sym (drop-drop w used (bits_of bs))

-- ---- writing

pub push_bit : (front : List ℕ) (used part left v : ℕ) → 0 < left
    → (front ++ digits (used + 1) (part * 2 + v / 2 ^ (left - 1) % 2)) ++ digits (left - 1) v ≡ (front ++ digits used part) ++ digits left v
push_bit front used part zero v some = absurd (omega (arith, some))
push_bit front used part (suc left) v some =
    let less : suc left - 1 ≡ left = omega arith in
    let bit : v / 2 ^ left % 2 < 2 = omega arith in
    let push : digits (used + 1) (part * 2 + v / 2 ^ left % 2) ≡ digits used part ++ v / 2 ^ left % 2 ∷ [] = rw add-one (digits-push used part (v / 2 ^ left % 2) bit) in
    rw (less, push) (ap (λ (xs : List ℕ). xs ++ digits left v) (sym (append_assoc front (digits used part) (v / 2 ^ left % 2 ∷ []))) ∙ append_assoc (front ++ digits used part) (v / 2 ^ left % 2 ∷ []) (digits left v))

pub push_byte : (whole : List ℕ) (used b : ℕ) → used + 1 ≡ 8 → bits_of (whole ++ b ∷ []) ++ [] ≡ bits_of whole ++ digits (used + 1) b
push_byte whole used b e = rw (e) (append-nil _ ∙ bits-append whole (b ∷ []))

pub put_is : (bytes whole new : List ℕ) (used part used' part' w v : ℕ) → new ≡ bytes ++ whole → bits_of whole ++ digits used' part' ≡ digits used part ++ digits w v
    → bits_of new ++ digits used' part' ≡ (bits_of bytes ++ digits used part) ++ digits w v
put_is bytes whole new used part used' part' w v e h =
    ap (λ (xs : List ℕ). bits_of xs ++ digits used' part') e
    ∙ ap (λ (xs : List ℕ). xs ++ digits used' part') (bits-append bytes whole)
    ∙ append_assoc (bits_of bytes) (bits_of whole) (digits used' part')
    ∙ ap (λ (xs : List ℕ). bits_of bytes ++ xs) h
    ∙ sym (append_assoc (bits_of bytes) (digits used part) (digits w v))

-- where no part of a byte waits, whole bytes may follow
pub no_part : (used part : ℕ) (xs ys : List ℕ) → used ≡ 0 → (xs ++ ys) ++ digits used part ≡ (xs ++ digits used part) ++ ys
no_part used part xs ys none = rw (none) (append-nil (xs ++ ys) ∙ ap (λ (zs : List ℕ). zs ++ ys) (sym (append-nil xs)))
