-- How the nodes of an arena are linked, and which lists that makes.
use Rattle.std.specs.Prelude.{◌≡◌, ◌≢◌, ◌≤◌, ◌⊎◌, ◌<◌, ⊤, ℕ, zero, suc, ◌-◌, ◌+◌, ◌==◌, not, List, [], ◌∷◌, Option, Some, None, if◌then◌else◌, option_map, length, map, filter, slice_index_or, slice_set, ◌++◌, sum_by}
use Rattle.slab.specs.Slab.{Slab, get, with_value, slab_len}
use Rattle.link_arena.specs.declared.node.Which.{Which}
use Rattle.link_arena.specs.declared.node.Link.{Link}
use Rattle.link_arena.specs.declared.node.Node.{Node}
use Rattle.link_arena.specs.declared.ends.Ends.{Ends}
use Rattle.link_arena.specs.Lists.{Lists}

-- ---- links of one kind, by node

-- each node's link, if there is such a node
abbrev pub Links : Type 0
Links = ℕ → Option Link

-- the first of some nodes, or else what stands behind them; the last of some, or else what stands before
abbrev pub first_of : List ℕ → Option ℕ → Option ℕ
first_of [] behind = behind
first_of (x ∷ xs) behind = Some x

abbrev pub last_of : Option ℕ → List ℕ → Option ℕ
last_of before [] = before
last_of before (x ∷ xs) = last_of (Some x) xs

-- these nodes stand on list l in this order, with `before` and `behind` around them
abbrev pub Row : Links → ℕ → Option ℕ → List ℕ → Option ℕ → Type 0
Row f l before [] behind = ⊤
Row f l before (x ∷ xs) behind =
    (f x ≡ Some (record { list = l; prev = before; next = first_of xs behind })) × Row f l (Some x) xs behind

-- a node is one of these
abbrev pub In : List ℕ → ℕ → Type 0
In [] x = ⊥
In (y ∷ ys) x = (y ≡ x) ⊎ In ys x

-- no node stands twice
abbrev pub Apart : List ℕ → Type 0
Apart [] = ⊤
Apart (x ∷ xs) = (In xs x → ⊥) × Apart xs

-- the node behind the one with this link
abbrev pub behind : Option Link → Option ℕ
behind None = None
behind (Some k) = k.next

-- a node that is there, and those behind it
abbrev pub walked : ℕ → Option Link → List ℕ → List ℕ
walked x None rest = []
walked x (Some k) rest = x ∷ rest

-- the nodes from this one on, so many
abbrev pub walk : Links → ℕ → Option ℕ → List ℕ
walk f zero at = []
walk f (suc n) None = []
walk f (suc n) (Some x) = walked x (f x) (walk f n (behind (f x)))

-- the list of this number, empty where there is none
abbrev pub list_at : List (List ℕ) → ℕ → List ℕ
list_at lists l = slice_index_or lists l []

-- all nodes but x
abbrev pub off : ℕ → List ℕ → List ℕ
off x xs = filter (λ y. not (y == x)) xs

-- the ends of a list
abbrev pub ends_of : List ℕ → Ends
ends_of xs = record { front = first_of xs None; back = last_of None xs; count = length xs }

-- the lists that links and ends make
abbrev pub lists_in : Links → List Ends → List (List ℕ)
lists_in f ends = map (λ (e : Ends). walk f e.count e.front) ends

-- links and ends are those of these lists
pub record Tied (f : Links) (ends : List Ends) (lists : List (List ℕ)) : Type 0 where
  pub limits : ends ≡ map ends_of lists
  pub rows : (l : ℕ) → Row f l None (list_at lists l) None
  pub apart : (l : ℕ) → Apart (list_at lists l)

-- each node stands on its list
abbrev pub Home : Links → List (List ℕ) → Type 0
Home f lists = (x : ℕ) (k : Link) → f x ≡ Some k → In (list_at lists k.list) x

-- ---- what a call does to links and ends

-- a link with this node behind
abbrev pub put_next : Option ℕ → Link → Link
put_next n k = record k { next = n }

-- a link with this node before
abbrev pub put_prev : Option ℕ → Link → Link
put_prev p k = record k { prev = p }

-- the link of a node that is put last on list l, behind p
abbrev pub put_place : ℕ → Option ℕ → Link → Link
put_place l p k = record { list = l; prev = p; next = None }

-- one list is shorter by the node with this link
abbrev pub shorter : Ends → Link → Ends
shorter e k =
    record { front = else_kept k.prev k.next e.front; back = else_kept k.next k.prev e.back; count = e.count - 1 }
  where
    else_kept : Option ℕ → Option ℕ → Option ℕ → Option ℕ
    else_kept None new old = new
    else_kept (Some x) new old = old

-- one list is longer by this node
abbrev pub longer : Ends → ℕ → Ends
longer e x = record { front = first_one e.front; back = Some x; count = e.count + 1 }
  where
    first_one : Option ℕ → Option ℕ
    first_one None = Some x
    first_one (Some y) = Some y

-- ---- nodes

-- the other kind of lists
abbrev pub other : Which → Which
other Which.A = Which.B
other Which.B = Which.A

-- the ends of the lists of one kind
abbrev pub of_kind : Which → List Ends → List Ends → List Ends
of_kind Which.A a b = a
of_kind Which.B a b = b

module _ {T : Type 0} where
  -- a node's link of one kind
  abbrev pub link : Which → Node T → Link
  link Which.A n = n.a
  link Which.B n = n.b

  -- a node with this link of one kind
  abbrev pub with_link : Which → Node T → Link → Node T
  with_link Which.A n l = record n { a = l }
  with_link Which.B n l = record n { b = l }

  -- the links of one kind in a slab
  abbrev pub link_at : Which → Slab (Node T) → Links
  link_at which s x = option_map (link which) (get s x)

  -- the value of a node, if it is there
  abbrev pub value_at : Slab (Node T) → ℕ → Option T
  value_at s x = option_map (λ (n : Node T). n.value) (get s x)

  -- the link of a node is changed
  abbrev pub edited_to : Which → (Link → Link) → Slab (Node T) → ℕ → Option (Node T) → Slab (Node T)
  edited_to which e s x None = s
  edited_to which e s x (Some n) = with_value s x (with_link which n (e (link which n)))

  -- the same of a node that may be none
  abbrev pub edited : Which → (Link → Link) → Slab (Node T) → Option ℕ → Slab (Node T)
  edited which e s None = s
  edited which e s (Some x) = edited_to which e s x (get s x)

  -- ---- what is seen

  -- a node that has a value, with it
  abbrev pub paired : ℕ → Option T → List (ℕ × T) → List (ℕ × T)
  paired x None rest = rest
  paired x (Some v) rest = (x, v) ∷ rest

  -- these nodes with their values
  abbrev pub pairs : Slab (Node T) → List ℕ → List (ℕ × T)
  pairs s [] = []
  pairs s (x ∷ xs) = paired x (value_at s x) (pairs s xs)

  -- the lists of one kind, by their nodes
  abbrev pub lists_of : Which → Slab (Node T) → List Ends → List (List ℕ)
  lists_of which s ends = lists_in (link_at which s) ends

  -- what is seen of an arena
  abbrev pub seen : Slab (Node T) → List Ends → List Ends → ℕ → Lists T
  seen s ends_a ends_b room =
      record {
        a = map (pairs s) (lists_of Which.A s ends_a);
        b = map (pairs s) (lists_of Which.B s ends_b);
        room = room;
      }

  -- the lists of one kind are in order
  pub record InOrder (which : Which) (s : Slab (Node T)) (ends : List Ends) : Type 0 where
    pub tied : Tied (link_at which s) ends (lists_of which s ends)
    pub home : Home (link_at which s) (lists_of which s ends)

  -- what holds of every arena
  pub record IsSound (s : Slab (Node T)) (ends_a ends_b : List Ends) (room : ℕ) : Type 0 where
    pub a : InOrder Which.A s ends_a
    pub b : InOrder Which.B s ends_b
    pub count_a : slab_len s ≡ sum_by length (lists_of Which.A s ends_a)
    pub count_b : slab_len s ≡ sum_by length (lists_of Which.B s ends_b)
    pub few : slab_len s ≤ room
    pub fits : room ≤ s.capacity
    pub small : room < 4294967296

  -- ---- one node on none of the lists

  -- nothing but links of this kind changed
  pub record SameBut (which : Which) (s t : Slab (Node T)) : Type 0 where
    pub values : (x : ℕ) → value_at t x ≡ value_at s x
    pub others : (x : ℕ) → link_at (other which) t x ≡ link_at (other which) s x
    pub length : slab_len t ≡ slab_len s
    pub capacity : t.capacity ≡ s.capacity

  -- all nodes but x are on the lists
  pub record IsLoose (which : Which) (s : Slab (Node T)) (ends : List Ends) (x : ℕ) : Type 0 where
    pub tied : Tied (link_at which s) ends (lists_of which s ends)
    pub home : (y : ℕ) (k : Link) → y ≢ x → link_at which s y ≡ Some k → In (list_at (lists_of which s ends) k.list) y
    pub away : (l : ℕ) → In (list_at (lists_of which s ends) l) x → ⊥

  -- x was taken off its list
  pub record TakenOff (which : Which) (s : Slab (Node T)) (ends : List Ends) (x l : ℕ) (t : Slab (Node T)) (after : List Ends) : Type 0 where
    pub was : In (list_at (lists_of which s ends) l) x
    pub loose : IsLoose which t after x
    pub lists : lists_of which t after ≡ map (off x) (lists_of which s ends)
    pub size : length after ≡ length ends
    pub rest : SameBut which s t

  -- x was put last on list l
  pub record PutLast (which : Which) (s : Slab (Node T)) (ends : List Ends) (l x : ℕ) (t : Slab (Node T)) (after : List Ends) : Type 0 where
    pub order : InOrder which t after
    pub lists : lists_of which t after ≡ slice_set (lists_of which s ends) l (list_at (lists_of which s ends) l ++ x ∷ [])
    pub size : length after ≡ length ends
    pub rest : SameBut which s t

  -- x was moved to the end of its list l
  pub record MovedLast (which : Which) (s : Slab (Node T)) (ends : List Ends) (x l : ℕ) (t : Slab (Node T)) (after : List Ends) : Type 0 where
    pub was : In (list_at (lists_of which s ends) l) x
    pub order : InOrder which t after
    pub lists : lists_of which t after ≡ slice_set (map (off x) (lists_of which s ends)) l (off x (list_at (lists_of which s ends) l) ++ x ∷ [])
    pub rest : SameBut which s t
