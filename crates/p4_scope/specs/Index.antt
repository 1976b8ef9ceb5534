-- Where names stand.
use Rattle.std.specs.Prelude.{◌≡◌, ℕ, List, [], ◌∷◌, ◌++◌, Bool, if◌then◌else◌, Option, Some, None, is_some, cond, bytes_eq, slice_get}
use Rattle.std.specs.Map.{lookup}

-- each name of the list is found at its place
abbrev pub IsIndex : {V : Type 0} → List (List ℕ × V) → (List ℕ → Option ℕ) → Type 0
IsIndex {V = V} es place = (i : ℕ) (e : List ℕ × V) → slice_get es i ≡ Some e → place e.0 ≡ Some i

-- the value of a name, where this is what stands at its place
abbrev pub at_entry : {V : Type 0} → List ℕ → Option (List ℕ × V) → Option V
at_entry x None = None
at_entry x (Some e) = cond (bytes_eq x e.0) (Some e.1) None

-- the value of a name that can stand at this place alone
abbrev pub at_place : {V : Type 0} → List ℕ → List (List ℕ × V) → Option ℕ → Option V
at_place x es None = None
at_place x es (Some i) = at_entry x (slice_get es i)

-- whether a name has a value
abbrev pub is_there : {V : Type 0} → List ℕ → List (List ℕ × V) → Bool
is_there x es = is_some (lookup (bytes_eq x) es)

-- a name that has a value keeps it
abbrev pub keeping : {V : Type 0} → List ℕ → V → List (List ℕ × V) → List (List ℕ × V)
keeping x v es = if is_there x es then es else es ++ (x, v) ∷ []
