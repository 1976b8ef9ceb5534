-- How the copies stand in the arena, and what taking off a slot's first copy does.
use Rattle.std.specs.Prelude.{ℕ, ◌+◌, ◌<◌, ◌≤◌, ◌==◌, ◌≡◌, ◌≢◌, ⊤, nat_le, not, ◌&&◌, Bool, true, List, [], ◌∷◌, Option, Some, None, if◌then◌else◌, length, filter, slice_index_or}
use Rattle.link_arena.specs.Lists.{Lists, find, or_else}
use Rattle.mirror_buf.specs.Copies.{Copies, Named, is_of, first_of_greatest}
use Rattle.mirror_buf.specs.declared.kept.Kept.{Kept}

-- holds of each copy of a list
abbrev pub Each : (Named → Type 0) → List Named → Type 0
Each P [] = ⊤
Each P (c ∷ cs) = P c × Each P cs

-- each stands so to all behind it
abbrev pub Ordered : (Named → Named → Type 0) → List Named → Type 0
Ordered R [] = ⊤
Ordered R (c ∷ cs) = Each (R c) cs × Ordered R cs

-- two copies have two names
abbrev pub Apart : Named → Named → Type 0
Apart c d = c.0 ≢ d.0

-- one has a lower number than the other
abbrev pub Before : Named → Named → Type 0
Before c d = c.1.number < d.1.number

-- one was last sent no later than the other
abbrev pub Sooner : Named → Named → Type 0
Sooner c d = c.1.sent ≤ d.1.sent

-- the list of this number; none is empty
abbrev pub list_at : List (List Named) → ℕ → List Named
list_at lists l = slice_index_or lists l []

-- all copies, by last sending
abbrev pub all : Lists Kept → List Named
all s = list_at s.b 0

-- an arena of copies as a buffer: all copies, and as many slots as it has lists of kind A
abbrev pub seen : Lists Kept → Copies
seen s = record { copies = all s; slots = length s.a }

-- a copy, where it is of this slot
abbrev pub if_of : ℕ → Option Kept → Option Kept
if_of slot None = None
if_of slot (Some k) = if k.slot == slot then Some k else None

-- these lists by slot have these copies, each list by their numbers
pub record IsStanding (lists : List (List Named)) (cs : List Named) : Type 0 where
  pub apart : Ordered Apart cs
  pub sooner : Ordered Sooner cs
  pub same : (l id : ℕ) → find id (list_at lists l) ≡ if_of l (find id cs)
  pub apart_in : (l : ℕ) → Ordered Apart (list_at lists l)
  pub before : (l : ℕ) → Ordered Before (list_at lists l)

-- what holds of every buffer
pub record IsBuffer (s : Lists Kept) : Type 0 where
  pub one : s.b ≡ all s ∷ []
  pub room : s.room ≡ 1024
  pub stands : IsStanding s.a (all s)

-- up to the limit, if there is one
abbrev pub within : Option ℕ → ℕ → Bool
within None number = true
within (Some limit) number = nat_le number limit

-- of this slot, with a number within the limit
abbrev pub is_taken : ℕ → Option ℕ → Named → Bool
is_taken slot limit c = within limit c.1.number && is_of slot c

-- the slot's first copy within the limit was taken off, or there was none
abbrev pub TookFirst : ℕ → Option ℕ → Copies → Copies → Option ℕ → Type 0
TookFirst slot limit old new None = (new ≡ old) × (filter (is_taken slot limit) old.copies ≡ [])
TookFirst slot limit old new (Some first) =
    (new.slots ≡ old.slots) × (length old.copies ≡ length new.copies + 1)
    × (filter (λ c. not (is_taken slot limit c)) new.copies ≡ filter (λ c. not (is_taken slot limit c)) old.copies)
    × (first_of_greatest (filter (is_taken slot limit) old.copies) ≡ or_else (first_of_greatest (filter (is_taken slot limit) new.copies)) (Some first))
