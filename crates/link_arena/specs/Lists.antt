-- What is seen of an arena: for each list the pairs of its nodes' names and values, in order.
use Rattle.std.specs.Prelude.{ℕ, ◌==◌, ◌≡◌, ◌⊎◌, not, List, [], ◌∷◌, ◌++◌, Option, Some, None, IsSome, if◌then◌else◌, length, map, filter, slice_index_or, slice_set, sum_by, refl}
use Rattle.std.specs.Coded.{Coded, code_by, coded×, coded_ℕ, coded_list}
use Rattle.link_arena.specs.declared.node.Which.{Which}

-- the lists of either kind, by their numbers, and how many nodes fit
pub record Lists (T : Type 0) : Type 0 where
  pub a : List (List (ℕ × T))
  pub b : List (List (ℕ × T))
  pub room : ℕ

-- a code for the lists of an arena, by one for its values
abbrev pub lists_code : {T : Type 0} → Coded T → Coded (Lists T)
lists_code {T} code =
    code_by
    (List (List (ℕ × T)) × (List (List (ℕ × T)) × ℕ))
    (coded× (coded_list (coded_list (coded× coded_ℕ code))) (coded× (coded_list (coded_list (coded× coded_ℕ code))) coded_ℕ))
    (λ s. (s.a, (s.b, s.room)))
    (λ p. record { a = p.0; b = p.1.0; room = p.1.1 })
    (λ _. refl)

-- the first, or else the second
abbrev pub or_else : {X : Type 0} → Option X → Option X → Option X
or_else None y = y
or_else (Some x) y = Some x

module _ {T : Type 0} where
  -- ---- one list

  -- the value under a name
  abbrev pub find : ℕ → List (ℕ × T) → Option T
  find id [] = None
  find id (p ∷ ps) = if p.0 == id then Some p.1 else find id ps

  -- all other nodes
  abbrev pub without : ℕ → List (ℕ × T) → List (ℕ × T)
  without id ps = filter (λ p. not (p.0 == id)) ps

  -- the node comes last, in a list that has it
  abbrev pub moved : ℕ → List (ℕ × T) → List (ℕ × T)
  moved id ps = without id ps ++ filter (λ p. p.0 == id) ps

  -- the node has this value
  abbrev pub revalued : ℕ → T → List (ℕ × T) → List (ℕ × T)
  revalued id v ps = map (λ p. if p.0 == id then (id, v) else p) ps

  -- the name of the first node
  abbrev pub first_id : List (ℕ × T) → Option ℕ
  first_id [] = None
  first_id (p ∷ ps) = Some p.0

  -- the node behind this one
  abbrev pub id_behind : ℕ → List (ℕ × T) → Option ℕ
  id_behind id [] = None
  id_behind id (p ∷ ps) = if p.0 == id then first_id ps else id_behind id ps

  -- ---- all lists of a kind

  -- the value under a name, on any list
  abbrev pub find_in : ℕ → List (List (ℕ × T)) → Option T
  find_in id [] = None
  find_in id (ps ∷ rest) = or_else (find id ps) (find_in id rest)

  -- the node behind this one, on its list
  abbrev pub next_in : ℕ → List (List (ℕ × T)) → Option ℕ
  next_in id [] = None
  next_in id (ps ∷ rest) = or_else (id_behind id ps) (next_in id rest)

  -- a node comes last on a list
  abbrev pub appended : List (List (ℕ × T)) → ℕ → ℕ × T → List (List (ℕ × T))
  appended lists n p = slice_set lists n (slice_index_or lists n [] ++ p ∷ [])

  -- ---- an arena

  -- the lists of a kind
  abbrev pub lists : Which → Lists T → List (List (ℕ × T))
  lists Which.A s = s.a
  lists Which.B s = s.b

  -- how many nodes there are
  abbrev pub live : Lists T → ℕ
  live s = sum_by length s.a

  -- a node has this name; it stands on lists of both kinds
  abbrev pub IsLive : Lists T → ℕ → Type 0
  IsLive s id = IsSome (find_in id s.a) ⊎ IsSome (find_in id s.b)

  -- no node has this name
  abbrev pub IsFree : Lists T → ℕ → Type 0
  IsFree s id = (find_in id s.a ≡ None) × (find_in id s.b ≡ None)

  -- the value under a name
  abbrev pub value_of : Lists T → ℕ → Option T
  value_of s id = find_in id s.a

  -- a node is added, last on both its lists
  abbrev pub with_node : Lists T → ℕ → ℕ → ℕ → T → Lists T
  with_node s a b id v = record { a = appended s.a a (id, v); b = appended s.b b (id, v); room = s.room }

  -- a node is taken off both its lists
  abbrev pub without_node : Lists T → ℕ → Lists T
  without_node s id = record { a = map (without id) s.a; b = map (without id) s.b; room = s.room }

  -- a node comes last on its list of one kind
  abbrev pub with_moved : Which → Lists T → ℕ → Lists T
  with_moved Which.A s id = record s { a = map (moved id) s.a }
  with_moved Which.B s id = record s { b = map (moved id) s.b }

  -- a node gets another value
  abbrev pub with_value : Lists T → ℕ → T → Lists T
  with_value s id v = record { a = map (revalued id v) s.a; b = map (revalued id v) s.b; room = s.room }
