-- Which entry of a table, or which case of a `select`, wins.
use Rattle.std.specs.Prelude.{ℕ, ◌<◌, ◌≤◌, ◌≡◌, Bool, true, ◌&&◌, ◌==◌, List, [], ◌∷◌, ◌++◌, map, Option, Some, None, if◌then◌else◌, nat_lt, bit_and, slice_get}
use Rattle.std.specs.List.{AllByRecursion}
use Rattle.p4_ast.specs.declared.expression.P4Expr.{P4Expr}
use Rattle.p4_ast.specs.declared.parser.P4One.{P4One}
use Rattle.p4_ast.specs.declared.parser.P4One.TheVariants as one
use Rattle.p4_ast.specs.declared.parser.P4Keyset.{P4Keyset}
use Rattle.p4_ast.specs.declared.parser.P4Keyset.TheVariants as keyset
use Rattle.app_data.specs.declared.value.Value.{Value}
use Rattle.app_data.specs.declared.value.Match.{Match}
use Rattle.app_meaning.specs.Values.{ones}
use Rattle.app_meaning.specs.Slots.{Scope}
use Rattle.app_meaning.specs.Expressions.{eval}

-- a value under a mask
abbrev pub masked : Value → Value → Match
masked v mask = record { value = bit_and v.number mask.number; mask = mask.number }

-- the types and constants alone
abbrev pub constants_only : Scope → Scope
constants_only sc = record { types = sc.types; constants = sc.constants; registers = []; slots = []; own = None }

-- the value of an expression that is built of literals and constants
abbrev pub fixed : Scope → P4Expr → Value
fixed sc e = eval e (constants_only sc) []

-- a member of a keyset
abbrev pub one_match : Scope → P4One → Match
one_match sc (one.Any at) = record { value = 0; mask = 0 }
one_match sc (one.Expr at e None) = record { value = (fixed sc e).number; mask = ones (fixed sc e).width }
one_match sc (one.Expr at e (Some mask)) = masked (fixed sc e) (fixed sc mask)

-- a keyset; `default` asks for nothing
abbrev pub keyset_row : Scope → P4Keyset → List Match
keyset_row sc (keyset.Default at) = []
keyset_row sc (keyset.One o) = one_match sc o ∷ []
keyset_row sc (keyset.Tuple at os) = map (one_match sc) os

-- whether all keys match
abbrev pub fits : List Match → List Value → Bool
fits [] keys = true
fits (m ∷ ms) [] = true
fits (m ∷ ms) (k ∷ ks) = (bit_and k.number m.mask == m.value) && fits ms ks

-- the mask of a member, 0 where there is none
abbrev pub mask_of : Option Match → ℕ
mask_of None = 0
mask_of (Some m) = m.mask

-- the prefix that a row asks of the lpm key, as its mask: of two prefixes the longer one has the greater mask
abbrev pub prefix : Option ℕ → List Match → ℕ
prefix None row = 0
prefix (Some lpm) row = mask_of (slice_get row lpm)

-- a matching row, or a later one with a longer prefix
abbrev pub better : {A : Type 0} → Option ℕ → List Match × A → Option (List Match × A) → Option (List Match × A)
better lpm r None = Some r
better lpm r (Some s) = if nat_lt (prefix lpm r.0) (prefix lpm s.0) then Some s else Some r

-- the row that wins: among the matching ones with the longest prefix the first, without an lpm key the first that matches
abbrev pub winner : {A : Type 0} → Option ℕ → List Value → List (List Match × A) → Option (List Match × A)
winner lpm keys [] = None
winner lpm keys (r ∷ rs) = if fits r.0 keys then better lpm r (winner lpm keys rs) else winner lpm keys rs

-- of a row that matches
abbrev pub WhereFits : {A : Type 0} → List Value → (ℕ → Type 0) → Option ℕ → List Match × A → Type 0
WhereFits keys P lpm r = fits r.0 keys ≡ true → P (prefix lpm r.0)

-- a row that matches, before which each matching row asks for a shorter prefix, and behind which none asks for a longer one
pub record Wins {A : Type 0} (lpm : Option ℕ) (keys : List Value) (rows : List (List Match × A)) (r : List Match × A) : Type 0 where
  pub before : List (List Match × A)
  pub after : List (List Match × A)
  pub split : rows ≡ before ++ r ∷ after
  pub matches : fits r.0 keys ≡ true
  pub longer : AllByRecursion (WhereFits keys (λ p. p < prefix lpm r.0) lpm) before
  pub longest : AllByRecursion (WhereFits keys (λ p. p ≤ prefix lpm r.0) lpm) after
