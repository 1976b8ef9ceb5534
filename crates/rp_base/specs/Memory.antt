-- Objects in memory.
use Rattle.std.specs.Prelude.{ℕ, zero, suc, ◌+◌, ◌-◌, ◌^◌, ◌≤◌, ◌≡◌, min, List, [], ◌∷◌, ◌++◌, length, map, slice_index, All, if◌then◌else◌, nat_lt, Option, Some, None, Bool, true, false, Result, IsErrOf}
use Rattle.std.specs.List.{filter}
use Rattle.std.specs.List.Sorted.{IsNonDecreasing}
use Rattle.std.specs.Str.{bytes_eq}
use Rattle.rp_base.specs.declared.mem_inputs.Content.{Content}
use Rattle.rp_base.specs.declared.mem_link.Datagram.{Datagram}
use Rattle.rp_base.specs.declared.mem_link.Receipt.{Receipt}
use Rattle.rp_base.specs.declared.mem_link.Waiting.{Waiting}
use Rattle.rp_base.specs.declared.node.Node.{Node}
use Rattle.rp_base.specs.Nodes.{same_node}

-- the content of the first entry with this name
abbrev pub content_of : List Content → List ℕ → Option (List ℕ)
content_of [] name = None
content_of (c ∷ cs) name = if bytes_eq c.name name then Some c.bytes else content_of cs name

-- the same, or the empty content
abbrev pub sure_content_of : List Content → List ℕ → List ℕ
sure_content_of [] name = []
sure_content_of (c ∷ cs) name = if bytes_eq c.name name then c.bytes else sure_content_of cs name

-- what a sink tells: its bytes, unless some of them were not kept
abbrev pub told : {A : Type 0} → Bool → List A → Option (List A)
told whole bytes = if whole then Some bytes else None

-- every byte is still kept after a piece for which there was room
abbrev pub StaysWhole : Bool → ℕ → ℕ → Bool → Type 0
StaysWhole old size room new = old ≡ true → size ≤ room → new ≡ true

-- a datagram by sender, addressee and bytes
abbrev pub sending_of : Datagram → Node × Node × List ℕ
sending_of d = (d.from, d.to, d.bytes)

-- a receipt by node and bytes
abbrev pub receipt_of : Receipt → Node × Option (List ℕ)
receipt_of r = (r.node, r.bytes)

-- the bytes of the datagrams that wait for a node, in the order in which they came
abbrev pub queue_of : Node → List Waiting → List (List ℕ)
queue_of node waiting = map (λ w. w.bytes) (filter (λ w. same_node w.to node) waiting)

-- A datagram comes behind all others for its node; what waits for another node stays.
pub record Joins (to : Node) (bytes : List ℕ) (old new : List Waiting) : Type 0 where
  pub behind : queue_of to new ≡ queue_of to old ++ bytes ∷ []
  pub others : (other : Node) → same_node to other ≡ false → queue_of other new ≡ queue_of other old

-- The first datagram for a node is taken out; what waits for another node stays.
pub record Leaves (node : Node) (bytes : List ℕ) (old new : List Waiting) : Type 0 where
  pub first : queue_of node old ≡ bytes ∷ queue_of node new
  pub others : (other : Node) → same_node node other ≡ false → queue_of other new ≡ queue_of other old

-- a count of calls after one more; it stays at its end
abbrev pub one_more : ℕ → ℕ
one_more n = min (n + 1) (2 ^ 64 - 1)

-- a count of faults after a call: one more exactly where the call failed with this error
pub record CountsFaults {T E : Type 0} (before now : ℕ) (result : Result T E) (error : E) : Type 0 where
  pub rises : IsErrOf result error → now ≡ one_more before
  pub stays : ¬ (IsErrOf result error) → now ≡ before

-- a list from which a clock can answer: no member is below the one before it, none is past 2^61
pub record CanAnswer (coming : List ℕ) : Type 0 where
  pub rises : IsNonDecreasing coming
  pub bounded : All (λ x. x ≤ 2 ^ 61) coming

-- a clock's answer of this number, from 0: the list's member, past its end the last one, 0 where the list is empty
abbrev pub answer_at : List ℕ → ℕ → ℕ
answer_at coming n = slice_index coming (min n (length coming - 1))

-- the first n answers
abbrev pub answers_of : List ℕ → ℕ → List ℕ
answers_of coming zero = []
answers_of coming (suc n) = answers_of coming n ++ answer_at coming n ∷ []

-- the last of the first n answers, 0 where n is 0
abbrev pub last_answer : List ℕ → ℕ → ℕ
last_answer coming zero = 0
last_answer coming (suc n) = answer_at coming n

-- what a clock tells after n answers, unless its count stands at the end
abbrev pub told_answers : List ℕ → ℕ → Option (List ℕ)
told_answers coming n = if nat_lt n (2 ^ 64 - 1) then Some (answers_of coming n) else None
