-- How numbers are spelled.
use Rattle.std.specs.Prelude.{ℕ, ◌+◌, ◌*◌, ◌^◌, List, [], ◌∷◌, Bool, true, false, ◌&&◌, ◌||◌, Option, Some, None, if◌then◌else◌, nat_eq, nat_lt, nat_le, option_and_then, take, drop, position}
use Rattle.p4_lex.specs.Letters.{hex_digit}

-- the value of a digit in this base, where the byte is one
abbrev pub digit : ℕ → ℕ → Option ℕ
digit base c = option_and_then (λ d. if nat_lt d base then Some d else None) (hex_digit c)

-- The number that digits write in this base, `_` only between them. What stands before them writes `value`, and `behind` says whether a digit
-- stands right before.
abbrev pub figures : ℕ → Bool → ℕ → List ℕ → Option ℕ
figures base behind value [] = if behind then Some value else None
figures base behind value (c ∷ cs) =
    if nat_eq c 95 then (if behind then figures base false value cs else None)
    else option_and_then (λ d. figures base true (value * base + d) cs) (digit base c)

-- a number that fits 128 bits
abbrev pub fitting : Option ℕ → Option ℕ
fitting read = option_and_then (λ value. if nat_lt value (2 ^ 128) then Some value else None) read

-- the base that the letter behind a leading 0 names: x, b or o in either case
abbrev pub base_of : ℕ → Option ℕ
base_of c =
    if nat_eq c 120 || nat_eq c 88 then Some 16
    else (if nat_eq c 98 || nat_eq c 66 then Some 2
    else (if nat_eq c 111 || nat_eq c 79 then Some 8
    else None))

-- digits behind a base that was named, or the whole of a decimal number
abbrev pub in_base : Option ℕ → List ℕ → List ℕ → Option ℕ
in_base (Some base) behind whole = fitting (figures base false 0 behind)
in_base None behind whole = fitting (figures 10 false 0 whole)

-- a number without width
unfoldable pub plain : List ℕ → Option ℕ
plain [] = None
plain (c ∷ []) = fitting (figures 10 false 0 (c ∷ []))
plain (c ∷ d ∷ ds) = in_base (if nat_eq c 48 then base_of d else None) ds (c ∷ d ∷ ds)

-- a width: a decimal number from 1 to 128
unfoldable pub width : List ℕ → Option ℕ
width ds = option_and_then (λ w. if nat_le 1 w && nat_le w 128 then Some w else None) (fitting (figures 10 false 0 ds))

-- a number with its width, where the first `w` stands at this place
abbrev pub number_at : Option ℕ → List ℕ → Option (ℕ × Option ℕ)
number_at None word = option_and_then (λ value. Some (value, None)) (plain word)
number_at (Some i) word = option_and_then (λ w. option_and_then (λ value. Some (value, Some w)) (plain (drop (i + 1) word))) (width (take i word))

-- the number that a word spells: its value and its width, where one stands before a `w`
abbrev pub number : List ℕ → Option (ℕ × Option ℕ)
number word = number_at (position (λ c. nat_eq c 119) word) word
