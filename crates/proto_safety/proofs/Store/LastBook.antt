-- The last living replica, and the committed book under changes.
use Rattle.std.proofs.Common.{◌≡◌, ◌⊎◌, ℕ, ◌+◌, ◌≤◌, List, [], ◌∷◌, length, Some, None, arith, refl, sym, ap, subst, ◌∙◌, zero, suc, slice_get, set, inl, inr, true, false, Bool}
use Rattle.std.specs.Prelude.{if◌then◌else◌}
use Rattle.std.proofs.lemmas.Bool.{both_ways}
use Rattle.proto_model.specs.Records.{Booked}
use Rattle.proto_model.specs.Stands.{entries_of}
use Rattle.proto_model.specs.Committed.{last_running_book}
use Rattle.proto_model.specs.World.{ReplicaNode, numbers_from}
use Rattle.proto_model.specs.WorldStep.{changed_at, advanced_replicas}
use Rattle.proto_safety.specs.Books.{IsPrefix, lives, book_of}
use Rattle.proto_safety.proofs.Basics.Prefixes.{prefix_same}

pub record IsLast (nodes : List ReplicaNode) (n : ℕ) (node : ReplicaNode) : Type 0 where
  pub at : slice_get nodes n ≡ Some node
  pub up : lives node ≡ true
  pub last : (m : ℕ) (other : ReplicaNode) → slice_get nodes m ≡ Some other → lives other ≡ true → m ≤ n

abbrev pub NoneLives : List ReplicaNode → Type 0
NoneLives nodes = (m : ℕ) (node : ReplicaNode) → slice_get nodes m ≡ Some node → lives node ≡ true → ⊥

pub none_book : (nodes : List ReplicaNode) (book : List Booked) → NoneLives nodes → last_running_book nodes book ≡ book
none_book [] book none = refl
none_book (r ∷ rs) book none = none_case r.runs refl (none_book rs book (λ m node at up. none (suc m) node at up))
  where
    none_case : (b : Bool) → r.runs ≡ b → last_running_book rs book ≡ book → last_running_book rs (if b then r.book else book) ≡ book
    none_case true is rest = absurd (none 0 r refl is)
    none_case false is rest = rest

-- the committed book is that of the last living replica
pub last_book : (nodes : List ReplicaNode) (book : List Booked) (n : ℕ) (node : ReplicaNode) → IsLast nodes n node → last_running_book nodes book ≡ node.book
last_book [] book n node h = absurd (none_some node h.at)
  where
    none_some : (node : ReplicaNode) → None ≡ Some node → ⊥
    none_some node e = cc
last_book (r ∷ rs) book zero node h =
    let same : r ≡ node = some_is r node h.at in
    let up : r.runs ≡ true = ap (λ (x : ReplicaNode). x.runs) same ∙ h.up in
    rw up (none_book rs r.book (λ m other at up. absurd (too_low m (h.last (suc m) other at up))) ∙ ap (λ (x : ReplicaNode). x.book) same)
  where
    some_is : (a b : ReplicaNode) → Some a ≡ Some b → a ≡ b
    some_is a b e = cc

    too_low : (m : ℕ) → suc m ≤ 0 → ⊥
    too_low m l = absurd (omega arith)
last_book (r ∷ rs) book (suc n) node h =
    last_book rs (if r.runs then r.book else book) n node
    (record { at = h.at; up = h.up; last = λ m other at up. less m n (h.last (suc m) other at up) })
  where
    less : (m n : ℕ) → suc m ≤ suc n → m ≤ n
    less m n l = omega arith

abbrev pub Found : List ReplicaNode → Type 0
Found nodes = ((n : ℕ) × ((node : ReplicaNode) × IsLast nodes n node)) ⊎ NoneLives nodes

pub find_last : (nodes : List ReplicaNode) → Found nodes
find_last [] = inr (λ m node at up. cc)
find_last (r ∷ rs) = find_case (find_last rs) r.runs refl
  where
    behind : (n : ℕ) (node : ReplicaNode) → IsLast rs n node → (m : ℕ) (other : ReplicaNode) → slice_get (r ∷ rs) m ≡ Some other → lives other ≡ true → m ≤ suc n
    behind n node h zero other at up = omega arith
    behind n node h (suc m) other at up = omega (arith, h.last m other at up)

    alone : NoneLives rs → (m : ℕ) (other : ReplicaNode) → slice_get (r ∷ rs) m ≡ Some other → lives other ≡ true → m ≤ 0
    alone none zero other at up = omega arith
    alone none (suc m) other at up = absurd (none m other at up)

    nobody : r.runs ≡ false → NoneLives rs → NoneLives (r ∷ rs)
    nobody is none zero other at up = let same : r ≡ other = cc in both_ways r.runs is (ap (λ (x : ReplicaNode). x.runs) same ∙ up)
    nobody is none (suc m) other at up = none m other at up

    find_case : Found rs → (b : Bool) → r.runs ≡ b → Found (r ∷ rs)
    find_case (inl f) b is = inl (suc f.0, (f.1.0, record { at = f.1.1.at; up = f.1.1.up; last = behind f.0 f.1.0 f.1.1 }))
    find_case (inr none) true is = inl (0, (r, record { at = refl; up = is; last = alone none }))
    find_case (inr none) false is = inr (nobody is none)

-- ---- under changes

-- the same replicas behind, and a book that goes on in front
last_mono : (nodes : List ReplicaNode) (old new : List Booked) → IsPrefix (entries_of old) (entries_of new) → IsPrefix (entries_of (last_running_book nodes old)) (entries_of (last_running_book nodes new))
last_mono [] old new p = p
last_mono (r ∷ rs) old new p = mono_case r.runs (prefix_same (entries_of (last_running_book rs r.book))) (last_mono rs old new p)
  where
    mono_case : (b : Bool) → IsPrefix (entries_of (last_running_book rs r.book)) (entries_of (last_running_book rs r.book)) →
        IsPrefix (entries_of (last_running_book rs old)) (entries_of (last_running_book rs new)) →
        IsPrefix (entries_of (last_running_book rs (if b then r.book else old))) (entries_of (last_running_book rs (if b then r.book else new)))
    mono_case true same rest = same
    mono_case false same rest = rest

-- one replica's book goes on
pub set_committed : (nodes : List ReplicaNode) (n : ℕ) (node new : ReplicaNode) (book : List Booked) → slice_get nodes n ≡ Some node → new.runs ≡ node.runs → IsPrefix (entries_of node.book) (entries_of new.book) →
    IsPrefix (entries_of (last_running_book nodes book)) (entries_of (last_running_book (set nodes n new) book))
set_committed [] n node new book at runs p = cc
set_committed (r ∷ rs) zero node new book at runs p =
    let same : r ≡ node = cc in
    rw runs (subst (λ (x : ReplicaNode). IsPrefix (entries_of (last_running_book rs (if x.runs then x.book else book))) (entries_of (last_running_book rs (if node.runs then new.book else book)))) (sym same)
    (front_case node.runs))
  where
    front_case : (b : Bool) → IsPrefix (entries_of (last_running_book rs (if b then node.book else book))) (entries_of (last_running_book rs (if b then new.book else book)))
    front_case true = last_mono rs node.book new.book p
    front_case false = prefix_same (entries_of (last_running_book rs book))
set_committed (r ∷ rs) (suc n) node new book at runs p = set_committed rs n node new (if r.runs then r.book else book) at runs p

pub set_books : (nodes : List ReplicaNode) (n a : ℕ) (node new : ReplicaNode) → slice_get nodes n ≡ Some node → IsPrefix (entries_of node.book) (entries_of new.book) → IsPrefix (book_of nodes a) (book_of (set nodes n new) a)
set_books [] n a node new at p = cc
set_books (r ∷ rs) zero zero node new at p = let same : r ≡ node = cc in subst (λ (x : ReplicaNode). IsPrefix (entries_of x.book) (entries_of new.book)) (sym same) p
set_books (r ∷ rs) zero (suc a) node new at p = prefix_same (book_of rs a)
set_books (r ∷ rs) (suc n) zero node new at p = prefix_same (entries_of r.book)
set_books (r ∷ rs) (suc n) (suc a) node new at p = set_books rs n a node new at p

-- clocks go on
pub advanced_books : (nodes : List ReplicaNode) (by : List ℕ) (a : ℕ) → book_of (advanced_replicas nodes by) a ≡ book_of nodes a
advanced_books [] by a = refl
advanced_books (r ∷ rs) [] a = refl
advanced_books (r ∷ rs) (d ∷ ds) zero = refl
advanced_books (r ∷ rs) (d ∷ ds) (suc a) = advanced_books rs ds a

pub advanced_last : (nodes : List ReplicaNode) (by : List ℕ) (book : List Booked) → last_running_book (advanced_replicas nodes by) book ≡ last_running_book nodes book
advanced_last [] by book = refl
advanced_last (r ∷ rs) [] book = refl
advanced_last (r ∷ rs) (d ∷ ds) book = advanced_last rs ds (if r.runs then r.book else book)

-- the node as it was
pub advanced_at : (nodes : List ReplicaNode) (by : List ℕ) (n : ℕ) (new : ReplicaNode) → slice_get (advanced_replicas nodes by) n ≡ Some new →
    (old : ReplicaNode) × ((slice_get nodes n ≡ Some old) × (new ≡ record old { clock = new.clock }))
advanced_at [] by n new at = cc
advanced_at (r ∷ rs) [] n new at = (new, (at, refl))
advanced_at (r ∷ rs) (d ∷ ds) zero new at =
    let same : record r { clock = r.clock + d } ≡ new = cc in
    (r, (refl, sym same ∙ ap (λ (x : ReplicaNode). record r { clock = x.clock }) same))
advanced_at (r ∷ rs) (d ∷ ds) (suc n) new at = advanced_at rs ds n new at

-- one replica stops
abbrev pub stop : ReplicaNode → ReplicaNode
stop r = record r { runs = false }

pub stopped_books : (nodes : List ReplicaNode) (n a : ℕ) → book_of (changed_at nodes n (λ (r : ReplicaNode). record r { runs = false })) a ≡ book_of nodes a
stopped_books [] n a = refl
stopped_books (r ∷ rs) zero zero = refl
stopped_books (r ∷ rs) zero (suc a) = refl
stopped_books (r ∷ rs) (suc n) zero = refl
stopped_books (r ∷ rs) (suc n) (suc a) = stopped_books rs n a

-- at most one ran where nobody is left
none_running : (nodes : List ReplicaNode) (k : ℕ) → NoneLives nodes → length (numbers_from (λ (x : ReplicaNode). x.runs) k nodes) ≡ 0
none_running [] k none = refl
none_running (r ∷ rs) k none = running_case r.runs refl (none_running rs (k + 1) (λ m node at up. none (suc m) node at up))
  where
    running_case : (b : Bool) → r.runs ≡ b → length (numbers_from (λ (x : ReplicaNode). x.runs) (k + 1) rs) ≡ 0 →
        length (if b then k ∷ numbers_from (λ (x : ReplicaNode). x.runs) (k + 1) rs else numbers_from (λ (x : ReplicaNode). x.runs) (k + 1) rs) ≡ 0
    running_case true is rest = absurd (none 0 r refl is)
    running_case false is rest = rest

pub few_ran : (nodes : List ReplicaNode) (n k : ℕ) → NoneLives (changed_at nodes n (λ (r : ReplicaNode). record r { runs = false })) → length (numbers_from (λ (x : ReplicaNode). x.runs) k nodes) ≤ 1
few_ran [] n k none = omega arith
few_ran (r ∷ rs) zero k none = ran_case r.runs (none_running rs (k + 1) (λ m node at up. none (suc m) node at up))
  where
    ran_case : (b : Bool) → length (numbers_from (λ (x : ReplicaNode). x.runs) (k + 1) rs) ≡ 0 →
        length (if b then k ∷ numbers_from (λ (x : ReplicaNode). x.runs) (k + 1) rs else numbers_from (λ (x : ReplicaNode). x.runs) (k + 1) rs) ≤ 1
    ran_case true rest = omega arith
    ran_case false rest = omega arith
few_ran (r ∷ rs) (suc n) k none = ran_case r.runs refl (few_ran rs n (k + 1) (λ m node at up. none (suc m) node at up))
  where
    ran_case : (b : Bool) → r.runs ≡ b → length (numbers_from (λ (x : ReplicaNode). x.runs) (k + 1) rs) ≤ 1 →
        length (if b then k ∷ numbers_from (λ (x : ReplicaNode). x.runs) (k + 1) rs else numbers_from (λ (x : ReplicaNode). x.runs) (k + 1) rs) ≤ 1
    ran_case true is rest = absurd (none 0 r refl is)
    ran_case false is rest = rest
