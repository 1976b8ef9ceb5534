-- Where a key stands in a table.
use Rattle.std.specs.Prelude.{ℕ, zero, suc, ◌≡◌, ⊤, true, false, List, [], ◌∷◌}
use Rattle.std.specs.List.{AllByRecursion}
use Rattle.key_table.specs.Table.{Key, Table, same_key}

-- the key stands first at this place, counted from 0
abbrev pub IsPlaceOf : {V : Type 0} → Table V → Key → ℕ → Type 0
IsPlaceOf [] k i = ⊥
IsPlaceOf (e ∷ es) k zero = same_key e.0 k ≡ true
IsPlaceOf (e ∷ es) k (suc i) = (same_key e.0 k ≡ false) × IsPlaceOf es k i

-- the same in a list of keys
abbrev pub IsAt : List Key → Key → ℕ → Type 0
IsAt [] k i = ⊥
IsAt (j ∷ js) k zero = same_key j k ≡ true
IsAt (j ∷ js) k (suc i) = (same_key j k ≡ false) × IsAt js k i

-- no key stands twice
abbrev pub Distinct : List Key → Type 0
Distinct [] = ⊤
Distinct (k ∷ ks) = AllByRecursion (λ j. same_key k j ≡ false) ks × Distinct ks
