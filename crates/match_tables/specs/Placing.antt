-- Where entries stand in order: a sorted list finds what the entries say.
use Rattle.std.specs.Prelude.{ℕ, suc, ◌-◌, ◌^◌, ◌≡◌, Bool, false, cond, List, [], ◌∷◌, Option, Some, None, if◌then◌else◌, nat_lt, bit_and, min, ⊤}
use Rattle.std.specs.Ordering.{is_eq, nat_cmp}
use Rattle.std.specs.Cmp.Lexicographic.{slice_cmp}
use Rattle.std.specs.List.{AllByRecursion}
use Rattle.std.specs.declared.cmp.Ordering.TheVariants.{Less}
use Rattle.match_tables.specs.declared.entries.MatchCond.{MatchCond}
use Rattle.match_tables.specs.Winning.{prefix_of}

-- an entry as a list of numbers: each value and its mask
abbrev pub spelled : List MatchCond → List ℕ
spelled [] = []
spelled (m ∷ ms) = m.value ∷ m.mask ∷ spelled ms

-- what an entry with these masks that matches the keys is
abbrev pub asked : List ℕ → List ℕ → List ℕ
asked [] keys = []
asked (m ∷ ms) [] = []
asked (m ∷ ms) (k ∷ ks) = bit_and k m ∷ m ∷ asked ms ks

-- the number of the first entry that is spelled so, from this number on
abbrev pub first_at : List ℕ → ℕ → List (List MatchCond) → Option ℕ
first_at x i [] = None
first_at x i (r ∷ rs) = cond (is_eq (slice_cmp nat_cmp x (spelled r))) (Some i) (first_at x (suc i) rs)

-- masks behind a number that is the less, the longer the prefix
abbrev pub ranked : Option ℕ → List ℕ → List ℕ
ranked lpm masks = (2 ^ 128 - 1 - prefix_of lpm masks) ∷ masks

-- how far a prefix is from the longest one
abbrev pub rank : List ℕ → ℕ
rank [] = 0
rank (p ∷ masks) = p

-- the masks behind their rank
abbrev pub behind : List ℕ → List ℕ
behind [] = []
behind (p ∷ masks) = masks

-- each list of numbers is below those behind it
abbrev pub Rising : List (List ℕ) → Type 0
Rising [] = ⊤
Rising (k ∷ ks) = AllByRecursion (λ (y : List ℕ). slice_cmp nat_cmp k y ≡ Less) ks × Rising ks

-- the best entry so far, if there is one: its rank and its number
abbrev pub Best : Type 0
Best = Option (ℕ × ℕ)

-- whether the best entry so far has a longer prefix
abbrev pub passed : Best → ℕ → Bool
passed None p = false
passed (Some b) p = nat_lt b.0 p

-- the earlier one of two entries with prefixes of one length
abbrev pub earlier : Best → ℕ → Option ℕ → Best
earlier best p None = best
earlier None p (Some n) = Some (p, n)
earlier (Some b) p (Some n) = Some (p, min b.1 n)

-- the best entry after those of some lists of masks, longest prefix first
abbrev pub searched : (List ℕ → Option ℕ) → List ℕ → Best → List (List ℕ) → Best
searched find keys best [] = best
searched find keys best (s ∷ ss) =
    if passed best (rank s) then best else searched find keys (earlier best (rank s) (find (asked (behind s) keys))) ss
