-- Numbers and bytes as lists of bits.
use Rattle.std.specs.Prelude.{ℕ, zero, suc, ◌+◌, ◌*◌, ◌/◌, ◌%◌, ◌^◌, List, [], ◌∷◌, ◌++◌, Result, Ok, Err, fold, take, drop, length, nat_lt, if◌then◌else◌}
use Rattle.rp_bits.specs.declared.reader.Short.{Short}

-- so many bits of a number, the highest first
abbrev pub digits : ℕ → ℕ → List ℕ
digits zero n = []
digits (suc w) n = n / 2 ^ w % 2 ∷ digits w n

-- the number of these bits
abbrev pub number_of : List ℕ → ℕ
number_of bits = fold (λ n bit. n * 2 + bit) 0 bits

-- the bits of these bytes
abbrev pub bits_of : List ℕ → List ℕ
bits_of [] = []
bits_of (b ∷ bs) = digits 8 b ++ bits_of bs

-- the bytes of these bits, eight a byte
abbrev pub bytes_of : List ℕ → List ℕ
bytes_of (a ∷ b ∷ c ∷ d ∷ e ∷ f ∷ g ∷ h ∷ bits) = number_of (a ∷ b ∷ c ∷ d ∷ e ∷ f ∷ g ∷ h ∷ []) ∷ bytes_of bits
bytes_of bits = []

-- the bits that are left behind the next `w`, and the number of those; where fewer are left, how many they are
abbrev pub taken : ℕ → List ℕ → List ℕ × Result ℕ Short
taken w bits = if nat_lt (length bits) w then (bits, Err (record { left = length bits })) else (drop w bits, Ok (number_of (take w bits)))
