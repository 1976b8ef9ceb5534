-- Which states lead back to themselves. States are numbers, and a graph lists the numbers to which each leads.
use Rattle.std.specs.Prelude.{ℕ, zero, suc, ◌+◌, Bool, true, ◌&&◌, nat_eq, nat_lt, nat_le, if◌then◌else◌, List, [], ◌∷◌, ◌++◌, length, Option, Some, None, slice_get, slice_index}
use Rattle.std.specs.Option.{option_map_or}
use Rattle.std.specs.List.{list_any, list_all}

-- for each state the numbers to which it leads
abbrev pub Graph : Type 0
Graph = List (List ℕ)

-- the numbers to which a state leads; a number that is no state leads nowhere
abbrev pub targets : Graph → ℕ → List ℕ
targets g n = option_map_or (λ ys. ys) (slice_get g n) []

-- whether a number is among these
abbrev pub is_among : ℕ → List ℕ → Bool
is_among y xs = list_any (λ x. nat_eq x y) xs

-- numbers with another, unless it is among them
abbrev pub grown : List ℕ → ℕ → List ℕ
grown xs y = if is_among y xs then xs else xs ++ y ∷ []

-- numbers with the new ones of others
abbrev pub joined : List ℕ → List ℕ → List ℕ
joined xs [] = xs
joined xs (y ∷ ys) = joined (grown xs y) ys

-- onward from the state that is looked at next, where there is one
abbrev pub onward : (List ℕ → List ℕ) → Graph → List ℕ → Option ℕ → List ℕ
onward walk g xs None = xs
onward walk g xs (Some x) = walk (joined xs (targets g x))

-- these numbers and all to which they lead, where the first i were looked at and so many more may be: each is looked at once, so
-- that as many are enough as there are states
abbrev pub reached : ℕ → Graph → ℕ → List ℕ → List ℕ
reached zero g i xs = xs
reached (suc k) g i xs = onward (reached k g (i + 1)) g xs (slice_get xs i)

-- whether a state can lead back to itself
abbrev pub leads_back : Graph → ℕ → Bool
leads_back g n = is_among n (reached (length g) g 0 (joined [] (targets g n)))

-- ---- a witness that states don't lead back

-- whether each of these has at most this rank
abbrev pub at_most : List ℕ → ℕ → List ℕ → Bool
at_most ranks b ys = list_all (λ y. nat_le (slice_index ranks y) b) ys

-- whether no state from the ith on leads to a greater rank
abbrev pub falls : List ℕ → ℕ → Graph → Bool
falls ranks i [] = true
falls ranks i (ys ∷ g) = at_most ranks (slice_index ranks i) ys && falls ranks (i + 1) g

-- whether a state leads to lesser ranks alone
abbrev pub is_clear : List ℕ → Graph → ℕ → Bool
is_clear ranks g n = list_all (λ y. nat_lt (slice_index ranks y) (slice_index ranks n)) (targets g n)
