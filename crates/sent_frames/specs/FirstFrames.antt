-- Where bytes first stand among frames, and an index that says so.
use Rattle.std.specs.Prelude.{ℕ, ◌≡◌, Bool, List, Option, Some, None, cond, slice_get}
use Rattle.std.specs.List.{position_from}
use Rattle.std.specs.Ordering.{nat_cmp}
use Rattle.std.specs.Cmp.Lexicographic.{slice_cmp}
use Rattle.std.specs.BTreeMap.{get_by}
use Rattle.std.specs.Str.{bytes_eq}
use Rattle.rp_base.specs.declared.node.Node.{Node}
use Rattle.rp_base.specs.Nodes.{same_node}
use Rattle.sent_frames.specs.declared.first_places.FirstPlaces.{FirstPlaces}
use Rattle.sent_frames.specs.declared.frames.Sent.{Sent}

-- the place that an index has for these bytes
abbrev pub place_in : FirstPlaces → List ℕ → Option ℕ
place_in f bytes = get_by (λ k. slice_cmp nat_cmp bytes k.items) f.places

-- whether a frame has these bytes
abbrev pub has_bytes : List ℕ → Sent → Bool
has_bytes bytes s = bytes_eq s.bytes bytes

-- the place of the first frame with these bytes
abbrev pub first_place : List ℕ → List Sent → Option ℕ
first_place bytes ss = position_from (has_bytes bytes) 0 ss

-- an index has the first place of each frame's bytes; what it has of other bytes is left open
abbrev pub AreFirsts : List Sent → (List ℕ → Option ℕ) → Type 0
AreFirsts ss place = (i : ℕ) (s : Sent) → slice_get ss i ≡ Some s → place s.bytes ≡ first_place s.bytes ss

-- this place, where its frame has these bytes
abbrev pub right_at : List ℕ → ℕ → Option Sent → Option ℕ
right_at bytes i None = None
right_at bytes i (Some s) = cond (bytes_eq s.bytes bytes) (Some i) None

-- an index's place, where the frame there has these bytes
abbrev pub right_place : List ℕ → List Sent → Option ℕ → Option ℕ
right_place bytes ss None = None
right_place bytes ss (Some i) = right_at bytes i (slice_get ss i)

-- this place, where its frame goes to this node
abbrev pub going_at : Node → ℕ → Option Sent → Option ℕ
going_at to i None = None
going_at to i (Some s) = cond (same_node s.to to) (Some i) None

-- a place, where the frame there goes to this node
abbrev pub going : Node → List Sent → Option ℕ → Option ℕ
going to ss None = None
going to ss (Some i) = going_at to i (slice_get ss i)
