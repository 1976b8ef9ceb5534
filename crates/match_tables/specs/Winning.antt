-- Which entry of a table wins.
use Rattle.std.specs.Prelude.{ℕ, suc, ◌-◌, ◌^◌, ◌≡◌, Bool, true, false, ◌&&◌, ◌==◌, List, [], ◌∷◌, map, Option, Some, None, if◌then◌else◌, nat_lt, bit_and, slice_get, position, option_map}
use Rattle.std.specs.Prelude.{All}
use Rattle.match_tables.specs.declared.entries.MatchKind.{MatchKind}
use Rattle.match_tables.specs.declared.entries.MatchKind.TheVariants as kind
use Rattle.match_tables.specs.declared.entries.MatchCond.{MatchCond}
use Rattle.match_tables.specs.declared.entries.Entries.{Entries}

-- whether a key is matched by its longest prefix
abbrev pub is_lpm : MatchKind → Bool
is_lpm kind.Exact = false
is_lpm kind.Lpm = true
is_lpm kind.Ternary = false

-- whether a key is matched under any mask
abbrev pub is_ternary : MatchKind → Bool
is_ternary kind.Exact = false
is_ternary kind.Lpm = false
is_ternary kind.Ternary = true

-- whether a key is matched as a whole
abbrev pub is_exact : MatchKind → Bool
is_exact kind.Exact = true
is_exact kind.Lpm = false
is_exact kind.Ternary = false

-- the place of the lpm key, if there is one
abbrev pub lpm_place : List (MatchKind × ℕ) → Option ℕ
lpm_place keys = position (λ k. is_lpm k.0) keys

-- whether all keys match
abbrev pub fits : List MatchCond → List ℕ → Bool
fits [] keys = true
fits (m ∷ ms) [] = true
fits (m ∷ ms) (k ∷ ks) = (bit_and k m.mask == m.value) && fits ms ks

-- the masks of an entry
abbrev pub masks_of : List MatchCond → List ℕ
masks_of row = map (λ m. m.mask) row

-- a mask, 0 where there is none
abbrev pub or_zero : Option ℕ → ℕ
or_zero None = 0
or_zero (Some n) = n

-- the mask at the place of the lpm key: of two prefixes the longer one has the greater mask
abbrev pub prefix_of : Option ℕ → List ℕ → ℕ
prefix_of None masks = 0
prefix_of (Some lpm) masks = or_zero (slice_get masks lpm)

-- the prefix that an entry asks of the lpm key, as its mask
abbrev pub prefix : Option ℕ → List MatchCond → ℕ
prefix lpm row = prefix_of lpm (masks_of row)

-- a matching entry, or a later one with a longer prefix
abbrev pub better : Option ℕ → List MatchCond × ℕ → Option (List MatchCond × ℕ) → Option (List MatchCond × ℕ)
better lpm r None = Some r
better lpm r (Some s) = if nat_lt (prefix lpm r.0) (prefix lpm s.0) then Some s else Some r

-- the entry that wins: among the matching ones with the longest prefix the first, without an lpm key the first that matches
abbrev pub winner : Option ℕ → List ℕ → List (List MatchCond × ℕ) → Option (List MatchCond × ℕ)
winner lpm keys [] = None
winner lpm keys (r ∷ rs) = if fits r.0 keys then better lpm r (winner lpm keys rs) else winner lpm keys rs

-- entries with their numbers, from this one on
abbrev pub numbered : ℕ → List (List MatchCond) → List (List MatchCond × ℕ)
numbered i [] = []
numbered i (r ∷ rs) = (r, i) ∷ numbered (suc i) rs

-- the number of an entry, if there is one
abbrev pub number_of : Option (List MatchCond × ℕ) → Option ℕ
number_of o = option_map (λ r. r.1) o

-- the number of the entry that wins
abbrev pub look : Entries → List ℕ → Option ℕ
look e keys = number_of (winner (lpm_place e.keys) keys (numbered 0 e.rows))

-- the masks of plain values: all bits of each key
abbrev pub whole_masks : List (MatchKind × ℕ) → List ℕ
whole_masks keys = map (λ k. 2 ^ k.1 - 1) keys

-- all entries are plain values of exact keys
pub record IsPlain (e : Entries) : Type 0 where
  pub exact : All (λ k. is_exact k.0 ≡ true) e.keys
  pub whole : All (λ r. masks_of r ≡ whole_masks e.keys) e.rows
