-- The bytes that names, numbers and gaps are made of.
use Rattle.std.specs.Prelude.{ℕ, ◌-◌, Bool, true, false, ◌||◌, ◌&&◌, Option, Some, None, if◌then◌else◌, nat_eq, nat_le}
use Rattle.std.specs.Char.{is_ascii_digit, is_ascii_alphabetic}

-- a space or a tab
abbrev pub is_blank : ℕ → Bool
is_blank c = nat_eq c 32 || nat_eq c 9

-- what a name begins with: a letter or `_`
abbrev pub begins_name : ℕ → Bool
begins_name c = is_ascii_alphabetic c || nat_eq c 95

-- what a name or a number goes on with: a letter, a digit or `_`
abbrev pub goes_on : ℕ → Bool
goes_on c = begins_name c || is_ascii_digit c

-- what a line goes on with: any byte but the line feed
abbrev pub in_line : ℕ → Bool
in_line c = if nat_eq c 10 then false else true

-- the value of a digit in base 16, where the byte is one
abbrev pub hex_digit : ℕ → Option ℕ
hex_digit c =
    if nat_le 48 c && nat_le c 57 then Some (c - 48)
    else (if nat_le 97 c && nat_le c 102 then Some (c - 87)
    else (if nat_le 65 c && nat_le c 70 then Some (c - 55)
    else None))
