-- The lines of a text, the words of a line, and what a word is.
use Rattle.std.specs.Prelude.{ℕ, ◌+◌, ◌-◌, ◌*◌, Bool, true, false, not, ◌&&◌, ◌==◌, if◌then◌else◌, nat_le, nat_lt, List, [], ◌∷◌, length, fold, Option, Some, None, Result, Ok, Err, codes, bytes_eq}
use Rattle.std.specs.List.{slice_split, onto_first, list_all}
use Rattle.hex.specs.Hex.{decode_of}
use Rattle.hex.specs.declared.error.FromHexError.{FromHexError}
use Rattle.rp_base.specs.declared.node.Node.{Node}
use Rattle.sched_lang.specs.declared.schedule.SchedWhy.{SchedWhy}
use Rattle.sched_lang.specs.declared.schedule.SchedWhy.TheVariants as why

-- ---- lines and words

-- the lines of a text; each ends with a line feed, which the last may lack
abbrev pub lines : List ℕ → List (List ℕ)
lines [] = []
lines (b ∷ bs) = if b == 10 then [] ∷ lines bs else onto_first b (lines bs)

-- empty lines, and comments, which begin with `#`
abbrev pub passed_over : List ℕ → Bool
passed_over [] = true
passed_over (b ∷ bs) = b == 35

-- the words of a line, with one space between each two
abbrev pub words : List ℕ → List (List ℕ)
words line = slice_split (λ b. b == 32) line

-- the words behind the first one: those of what stands behind its space, where there is one
abbrev pub words_behind : Option (List ℕ) → List (List ℕ)
words_behind None = []
words_behind (Some rest) = words rest

-- the words behind a first word of this name
abbrev pub behind : List ℕ → List (List ℕ) → Result (List (List ℕ)) SchedWhy
behind name [] = Err why.Form
behind name (word ∷ args) = if bytes_eq word name then Ok args else Err why.Form

-- no word
abbrev pub none : List (List ℕ) → Result (Unit {0}) SchedWhy
none [] = Ok tt
none ws = Err why.Form

-- one word and no more
abbrev pub one : List (List ℕ) → Result (List ℕ) SchedWhy
one (a ∷ []) = Ok a
one ws = Err why.Form

-- two words and no more
abbrev pub two : List (List ℕ) → Result (List ℕ × List ℕ) SchedWhy
two (a ∷ b ∷ []) = Ok (a, b)
two ws = Err why.Form

-- three words and no more
abbrev pub three : List (List ℕ) → Result (List ℕ × List ℕ × List ℕ) SchedWhy
three (a ∷ b ∷ c ∷ []) = Ok (a, b, c)
three ws = Err why.Form

-- ---- numbers

-- `0` to `9`
abbrev pub is_digit : ℕ → Bool
is_digit b = nat_le 48 b && nat_le b 57

-- decimal digits, of which the first isn't 0 where there are more
abbrev pub is_decimal : List ℕ → Bool
is_decimal [] = false
is_decimal (b ∷ []) = is_digit b
is_decimal (b ∷ c ∷ bs) = not (b == 48) && list_all is_digit (b ∷ c ∷ bs)

-- the number that decimal digits spell
abbrev pub value_of : List ℕ → ℕ
value_of digits = fold (λ n b. n * 10 + (b - 48)) 0 digits

-- a number in its range
abbrev pub number : ℕ → ℕ → List ℕ → Result ℕ SchedWhy
number least most word =
    if not (is_decimal word) then Err why.Form
    else if nat_le least (value_of word) && nat_le (value_of word) most then Ok (value_of word)
    else Err why.Number

-- ---- packets

-- a packet has at most 1,500 bytes
abbrev pub packet_in : Result (List ℕ) FromHexError → Result (List ℕ) SchedWhy
packet_in (Ok bytes) = if nat_le (length bytes) 1500 then Ok bytes else Err why.Number
packet_in (Err e) = Err why.Form

-- a packet: its bytes as pairs of hex digits of either case, or `-` where it has none
abbrev pub packet : List ℕ → Result (List ℕ) SchedWhy
packet word =
    if length word == 0 then Err why.Form
    else if bytes_eq word (codes "-") then Ok []
    else packet_in (decode_of word)

-- ---- nodes

-- the number of a node behind its letter: one of so many that have a name, and of so many that this run has
abbrev pub numbered : ℕ → ℕ → ℕ → Result ℕ SchedWhy
numbered named there digit =
    if not (nat_le 48 digit && nat_lt digit (48 + named)) then Err why.Form
    else if nat_lt (digit - 48) there then Ok (digit - 48)
    else Err why.Node

-- a switch: `s0` to `s7`
abbrev pub switch : ℕ → List ℕ → Result ℕ SchedWhy
switch switches (letter ∷ digit ∷ []) = if letter == 115 then numbered 8 switches digit else Err why.Form
switch switches word = Err why.Form

-- a number of a switch, as a node
abbrev pub as_switch : Result ℕ SchedWhy → Result Node SchedWhy
as_switch (Ok n) = Ok (Node.Switch n)
as_switch (Err cause) = Err cause

-- a number of a replica, as a node
abbrev pub as_replica : Result ℕ SchedWhy → Result Node SchedWhy
as_replica (Ok n) = Ok (Node.Replica n)
as_replica (Err cause) = Err cause

-- a node: a switch, or a replica, `r0` to `r4`
abbrev pub node : ℕ → ℕ → List ℕ → Result Node SchedWhy
node switches chain (letter ∷ digit ∷ []) =
    if letter == 115 then as_switch (numbered 8 switches digit)
    else if letter == 114 then as_replica (numbered 5 chain digit)
    else Err why.Form
node switches chain word = Err why.Form
