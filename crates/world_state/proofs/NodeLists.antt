-- The nodes of the definitions, looked up and changed among those that are kept.
use Rattle.std.proofs.Common.{◌≡◌, ℕ, zero, suc, ◌+◌, ◌<◌, ◌≤◌, List, [], ◌∷◌, ◌++◌, length, map, Option, Some, None, refl, ap, sym, ◌∙◌, Bool, true, false, slice_get, get_or, set, take, arith}
use Rattle.std.specs.Prelude.{◌^◌, if◌then◌else◌}
use Rattle.std.specs.List.{AllByRecursion}
use Rattle.proto_safety.proofs.Basics.Eachs.{each_at}
use Rattle.proto_model.specs.World.{SwitchNode, ReplicaNode, numbers_from}
use Rattle.proto_model.specs.WorldStep.{runs_at_switch, runs_at_replica, believed_at, advanced_switches, advanced_replicas, changed_at}
use Rattle.reroute.specs.Routes.{up_at}
use Rattle.world_state.specs.declared.nodes.SwitchNode.{SwitchNode as SwitchSeat}
use Rattle.world_state.specs.declared.nodes.ReplicaNode.{ReplicaNode as ReplicaSeat}
use Rattle.world_state.specs.Announcing.{replica_runs, switch_runs}
use Rattle.world_state.specs.Nodes.{switch_node, switch_nodes, replica_node, replica_nodes, switches_later, replicas_later}

-- ---- look-ups

abbrev pub seat_runs : Option SwitchSeat → Bool
seat_runs None = false
seat_runs (Some s) = s.runs

runs_there : (bs : List Bool) (ss : List SwitchSeat) (n : ℕ) → length bs ≡ length ss → runs_at_switch (slice_get (switch_nodes bs ss) n) ≡ seat_runs (slice_get ss n)
runs_there [] [] n same = refl
runs_there [] (s ∷ ss) n same = absurd (omega (arith, same))
runs_there (b ∷ bs) [] n same = absurd (omega (arith, same))
runs_there (b ∷ bs) (s ∷ ss) zero same = refl
runs_there (b ∷ bs) (s ∷ ss) (suc n) same = runs_there bs ss n (omega (arith, same))

pub switch_runs_at : (bs : List Bool) (ss : List SwitchSeat) (n : ℕ) (o : Option SwitchSeat) → length bs ≡ length ss → slice_get ss n ≡ o → runs_at_switch (slice_get (switch_nodes bs ss) n) ≡ seat_runs o
switch_runs_at bs ss n o same is = runs_there bs ss n same ∙ ap seat_runs is

abbrev pub seat_runs_too : Option ReplicaSeat → Bool
seat_runs_too None = false
seat_runs_too (Some r) = r.runs

replica_there : (rs : List ReplicaSeat) (n : ℕ) → runs_at_replica (slice_get (replica_nodes rs) n) ≡ seat_runs_too (slice_get rs n)
replica_there [] n = refl
replica_there (r ∷ rs) zero = refl
replica_there (r ∷ rs) (suc n) = replica_there rs n

pub replica_runs_at : (rs : List ReplicaSeat) (n : ℕ) (o : Option ReplicaSeat) → slice_get rs n ≡ o → runs_at_replica (slice_get (replica_nodes rs) n) ≡ seat_runs_too o
replica_runs_at rs n o is = replica_there rs n ∙ ap seat_runs_too is

pub believed_there : (bs : List Bool) (ss : List SwitchSeat) (n : ℕ) → length bs ≡ length ss → up_at (slice_get bs n) ≡ believed_at (slice_get (switch_nodes bs ss) n)
believed_there [] [] n same = refl
believed_there [] (s ∷ ss) n same = refl
believed_there (b ∷ bs) [] n same = absurd (omega (arith, same))
believed_there (b ∷ bs) (s ∷ ss) zero same = refl
believed_there (b ∷ bs) (s ∷ ss) (suc n) same = believed_there bs ss n (omega (arith, same))

pub length_switches : (bs : List Bool) (ss : List SwitchSeat) → length bs ≡ length ss → length (switch_nodes bs ss) ≡ length ss
length_switches [] [] same = refl
length_switches [] (s ∷ ss) same = absurd (omega (arith, same))
length_switches (b ∷ bs) [] same = refl
length_switches (b ∷ bs) (s ∷ ss) same = ap suc (length_switches bs ss (omega (arith, same)))

-- the switches that are believed up
pub believed_numbers : (bs : List Bool) (ss : List SwitchSeat) (from : ℕ) → length bs ≡ length ss → numbers_from (λ (b : Bool). b) from bs ≡ numbers_from (λ (n : SwitchNode). n.believed) from (switch_nodes bs ss)
believed_numbers [] ss from same = refl
believed_numbers (b ∷ bs) [] from same = absurd (omega (arith, same))
believed_numbers (b ∷ bs) (s ∷ ss) from same = λ i. if b then from ∷ believed_numbers bs ss (from + 1) (omega (arith, same)) i else believed_numbers bs ss (from + 1) (omega (arith, same)) i

-- one node more is one number more, if it passes
pub counted_more : {N : Type 0} (test : N → Bool) (from : ℕ) (xs : List N) (x : N) → length (numbers_from test from (xs ++ x ∷ [])) ≡ (if test x then length (numbers_from test from xs) + 1 else length (numbers_from test from xs))
counted_more test from [] x = by (test x)
  where
    by : (b : Bool) → length (if b then from ∷ [] else []) ≡ (if b then 0 + 1 else 0)
    by true = refl
    by false = refl
counted_more test from (y ∷ ys) x = by (test y) (test x) (counted_more test (from + 1) ys x)
  where
    by : (b c : Bool) → length (numbers_from test (from + 1) (ys ++ x ∷ [])) ≡ (if c then length (numbers_from test (from + 1) ys) + 1 else length (numbers_from test (from + 1) ys)) →
        length (if b then from ∷ numbers_from test (from + 1) (ys ++ x ∷ []) else numbers_from test (from + 1) (ys ++ x ∷ [])) ≡
        (if c then length (if b then from ∷ numbers_from test (from + 1) ys else numbers_from test (from + 1) ys) + 1 else length (if b then from ∷ numbers_from test (from + 1) ys else numbers_from test (from + 1) ys))
    by true true h = omega (arith, h)
    by true false h = omega (arith, h)
    by false true h = h
    by false false h = h

-- ---- changes

pub later_switches : (bs : List Bool) (ss : List SwitchSeat) (ds : List ℕ) → switch_nodes bs (switches_later ss ds) ≡ advanced_switches (switch_nodes bs ss) ds
later_switches [] ss ds = refl
later_switches (b ∷ bs) [] ds = refl
later_switches (b ∷ bs) (s ∷ ss) [] = refl
later_switches (b ∷ bs) (s ∷ ss) (d ∷ ds) = ap (λ ns. switch_node b (record s { clock = s.clock + d }) ∷ ns) (later_switches bs ss ds)

pub later_replicas : (rs : List ReplicaSeat) (ds : List ℕ) → replica_nodes (replicas_later rs ds) ≡ advanced_replicas (replica_nodes rs) ds
later_replicas [] ds = refl
later_replicas (r ∷ rs) [] = refl
later_replicas (r ∷ rs) (d ∷ ds) = ap (λ ns. replica_node (record r { clock = r.clock + d }) ∷ ns) (later_replicas rs ds)

-- a switch changes, whatever routing believes of it
pub changed_switch : (bs : List Bool) (ss : List SwitchSeat) (n : ℕ) (f : SwitchSeat → SwitchSeat) (g : SwitchNode → SwitchNode) → ((b : Bool) (s : SwitchSeat) → switch_node b (f s) ≡ g (switch_node b s)) →
    switch_nodes bs (changed_at ss n f) ≡ changed_at (switch_nodes bs ss) n g
changed_switch [] ss n f g is = refl
changed_switch (b ∷ bs) [] n f g is = refl
changed_switch (b ∷ bs) (s ∷ ss) zero f g is = ap (λ x. x ∷ switch_nodes bs ss) (is b s)
changed_switch (b ∷ bs) (s ∷ ss) (suc n) f g is = ap (λ ns. switch_node b s ∷ ns) (changed_switch bs ss n f g is)

pub changed_replica : (rs : List ReplicaSeat) (n : ℕ) (f : ReplicaSeat → ReplicaSeat) (g : ReplicaNode → ReplicaNode) → ((r : ReplicaSeat) → replica_node (f r) ≡ g (replica_node r)) →
    replica_nodes (changed_at rs n f) ≡ changed_at (replica_nodes rs) n g
changed_replica [] n f g is = refl
changed_replica (r ∷ rs) zero f g is = ap (λ x. x ∷ replica_nodes rs) (is r)
changed_replica (r ∷ rs) (suc n) f g is = ap (λ ns. replica_node r ∷ ns) (changed_replica rs n f g is)

-- a member that is replaced is changed
pub set_changes : {A : Type 0} (xs : List A) (n : ℕ) (x : A) (f : A → A) → slice_get xs n ≡ Some x → set xs n (f x) ≡ changed_at xs n f
set_changes [] n x f is = refl
set_changes (y ∷ ys) zero x f is = cc
set_changes (y ∷ ys) (suc n) x f is = ap (λ zs. y ∷ zs) (set_changes ys n x f is)

-- nothing changes where there is no such member
pub none_changes : {A : Type 0} (xs : List A) (n : ℕ) (f : A → A) → slice_get xs n ≡ None → xs ≡ changed_at xs n f
none_changes [] n f is = refl
none_changes (y ∷ ys) zero f is = cc
none_changes (y ∷ ys) (suc n) f is = ap (λ zs. y ∷ zs) (none_changes ys n f is)

-- nothing changes behind the last member
pub past_changes : {A : Type 0} (xs : List A) (n : ℕ) (f : A → A) → length xs ≤ n → xs ≡ changed_at xs n f
past_changes [] n f le = refl
past_changes (y ∷ ys) zero f le = absurd (omega (arith, le))
past_changes (y ∷ ys) (suc n) f le = ap (λ zs. y ∷ zs) (past_changes ys n f (omega (arith, le)))

-- ---- clocks, one after the other

pub none_later : (ss : List SwitchSeat) → switches_later ss [] ≡ ss
none_later [] = refl
none_later (s ∷ ss) = refl

-- the next switch stands as it stood
pub next_stands : (ss : List SwitchSeat) (i : ℕ) (by : List ℕ) → slice_get (switches_later ss (take i by)) i ≡ slice_get ss i
next_stands [] i by = refl
next_stands (s ∷ ss) zero by = refl
next_stands (s ∷ ss) (suc i) [] = refl
next_stands (s ∷ ss) (suc i) (d ∷ ds) = next_stands ss i ds

pub one_later : (ss : List SwitchSeat) (i : ℕ) (by : List ℕ) (s : SwitchSeat) (d : ℕ) → slice_get ss i ≡ Some s → slice_get by i ≡ Some d →
    set (switches_later ss (take i by)) i (record s { clock = s.clock + d }) ≡ switches_later ss (take (suc i) by)
one_later [] i by s d is at = cc
one_later (x ∷ xs) i [] s d is at = cc
one_later (x ∷ xs) zero (e ∷ es) s d is at =
    let same : x ≡ s = cc in
    let more : e ≡ d = cc in
    λ i. record (sym same i) { clock = (sym same i).clock + sym more i } ∷ sym (none_later xs) i
one_later (x ∷ xs) (suc i) (e ∷ es) s d is at = ap (λ ns. record x { clock = x.clock + e } ∷ ns) (one_later xs i es s d is at)

pub none_later_too : (rs : List ReplicaSeat) → replicas_later rs [] ≡ rs
none_later_too [] = refl
none_later_too (r ∷ rs) = refl

pub next_stands_too : (rs : List ReplicaSeat) (i : ℕ) (by : List ℕ) → slice_get (replicas_later rs (take i by)) i ≡ slice_get rs i
next_stands_too [] i by = refl
next_stands_too (r ∷ rs) zero by = refl
next_stands_too (r ∷ rs) (suc i) [] = refl
next_stands_too (r ∷ rs) (suc i) (d ∷ ds) = next_stands_too rs i ds

pub one_later_too : (rs : List ReplicaSeat) (i : ℕ) (by : List ℕ) (r : ReplicaSeat) (d : ℕ) → slice_get rs i ≡ Some r → slice_get by i ≡ Some d →
    set (replicas_later rs (take i by)) i (record r { clock = r.clock + d }) ≡ replicas_later rs (take (suc i) by)
one_later_too [] i by r d is at = cc
one_later_too (x ∷ xs) i [] r d is at = cc
one_later_too (x ∷ xs) zero (e ∷ es) r d is at =
    let same : x ≡ r = cc in
    let more : e ≡ d = cc in
    λ i. record (sym same i) { clock = (sym same i).clock + sym more i } ∷ sym (none_later_too xs) i
one_later_too (x ∷ xs) (suc i) (e ∷ es) r d is at = ap (λ ns. record x { clock = x.clock + e } ∷ ns) (one_later_too xs i es r d is at)

-- ---- numbers of nodes

-- one node more comes last, if it passes
pub numbers_more : {N : Type 0} (test : N → Bool) (from : ℕ) (xs : List N) (x : N) → numbers_from test from (xs ++ x ∷ []) ≡ numbers_from test from xs ++ (if test x then (from + length xs) ∷ [] else [])
numbers_more test from [] x = let none : from ≡ from + 0 = omega arith in λ i. if test x then none i ∷ [] else []
numbers_more test from (y ∷ ys) x = by (test y) (numbers_more test (from + 1) ys x ∙ ap (λ n. numbers_from test (from + 1) ys ++ (if test x then n ∷ [] else [])) (omega arith))
  where
    by : (b : Bool) → numbers_from test (from + 1) (ys ++ x ∷ []) ≡ numbers_from test (from + 1) ys ++ (if test x then (from + suc (length ys)) ∷ [] else []) →
        (if b then from ∷ numbers_from test (from + 1) (ys ++ x ∷ []) else numbers_from test (from + 1) (ys ++ x ∷ [])) ≡
        (if b then from ∷ numbers_from test (from + 1) ys else numbers_from test (from + 1) ys) ++ (if test x then (from + suc (length ys)) ∷ [] else [])
    by true h = ap (λ ns. from ∷ ns) h
    by false h = h

pub running_numbers : (bs : List Bool) (ss : List SwitchSeat) (from : ℕ) → length bs ≡ length ss → numbers_from switch_runs from ss ≡ numbers_from (λ (n : SwitchNode). n.runs) from (switch_nodes bs ss)
running_numbers [] [] from same = refl
running_numbers [] (s ∷ ss) from same = absurd (omega (arith, same))
running_numbers (b ∷ bs) [] from same = refl
running_numbers (b ∷ bs) (s ∷ ss) from same = let rest = running_numbers bs ss (from + 1) (omega (arith, same)) in λ i. if s.runs then from ∷ rest i else rest i

pub running_numbers_too : (rs : List ReplicaSeat) (from : ℕ) → numbers_from replica_runs from rs ≡ numbers_from (λ (n : ReplicaNode). n.runs) from (replica_nodes rs)
running_numbers_too [] from = refl
running_numbers_too (r ∷ rs) from = let rest = running_numbers_too rs (from + 1) in λ i. if r.runs then from ∷ rest i else rest i

-- a member that stands there is changed
pub set_or_changes : {A : Type 0} (xs : List A) (n : ℕ) (x : A) (f : A → A) → n < length xs → x ≡ get_or xs n x → set xs n (f x) ≡ changed_at xs n f
set_or_changes [] n x f less is = absurd (omega (arith, less))
set_or_changes (y ∷ ys) zero x f less is = ap (λ z. f z ∷ ys) is
set_or_changes (y ∷ ys) (suc n) x f less is = ap (λ zs. y ∷ zs) (set_or_changes ys n x f (omega (arith, less)) is)

-- ---- clocks go on: one place of the loop

there_get : {A : Type 0} (xs : List A) (i : ℕ) (x : A) → i < length xs → x ≡ get_or xs i x → slice_get xs i ≡ Some x
there_get [] i x less is = absurd (omega (arith, less))
there_get (y ∷ ys) zero x less is = ap Some (sym is)
there_get (y ∷ ys) (suc i) x less is = there_get ys i x (omega (arith, less)) is

there_or : (xs : List ℕ) (i : ℕ) → i < length xs → slice_get xs i ≡ Some (get_or xs i 0)
there_or [] i less = absurd (omega (arith, less))
there_or (y ∷ ys) zero less = refl
there_or (y ∷ ys) (suc i) less = there_or ys i (omega (arith, less))

pub few_there : (xs : List ℕ) (i : ℕ) → i < length xs → AllByRecursion (λ x. x ≤ 1000000000) xs → get_or xs i 0 ≤ 1000000000
few_there [] i less h = absurd (omega (arith, less))
few_there (y ∷ ys) zero less h = h.0
few_there (y ∷ ys) (suc i) less h = few_there ys i (omega (arith, less)) h.1

module _ (ss : List SwitchSeat) (by : List ℕ) (i : ℕ) (items : List SwitchSeat) (x : SwitchSeat) (same : length by ≡ length ss) (less : i < length by) (was : items ≡ switches_later ss (take i by)) (is : x ≡ get_or items i x) where
  long : (ss : List SwitchSeat) (ds : List ℕ) → length (switches_later ss ds) ≡ length ss
  long [] ds = refl
  long (s ∷ ss) [] = refl
  long (s ∷ ss) (d ∷ ds) = ap suc (long ss ds)

  stands_next : slice_get ss i ≡ Some x
  stands_next =
      let size : length items ≡ length ss = ap length was ∙ long ss (take i by) in
      sym (next_stands ss i by) ∙ ap (λ (xs : List SwitchSeat). slice_get xs i) (sym was) ∙ there_get items i x (omega (arith, size, less, same)) is

  pub switch_clock : AllByRecursion (λ (s : SwitchSeat). s.clock ≤ 2 ^ 62) ss → x.clock ≤ 2 ^ 62
  switch_clock h = each_at (λ (s : SwitchSeat). s.clock ≤ 2 ^ 62) ss i x h stands_next

  pub switch_next : set items i (record x { clock = x.clock + get_or by i 0 }) ≡ switches_later ss (take (i + 1) by)
  switch_next =
      let more : suc i ≡ i + 1 = omega arith in
      ap (λ (xs : List SwitchSeat). set xs i (record x { clock = x.clock + get_or by i 0 })) was
      ∙ one_later ss i by x (get_or by i 0) stands_next (there_or by i less)
      ∙ ap (λ n. switches_later ss (take n by)) more

module _ (rs : List ReplicaSeat) (by : List ℕ) (i : ℕ) (items : List ReplicaSeat) (x : ReplicaSeat) (same : length by ≡ length rs) (less : i < length by) (was : items ≡ replicas_later rs (take i by)) (is : x ≡ get_or items i x) where
  long_too : (rs : List ReplicaSeat) (ds : List ℕ) → length (replicas_later rs ds) ≡ length rs
  long_too [] ds = refl
  long_too (r ∷ rs) [] = refl
  long_too (r ∷ rs) (d ∷ ds) = ap suc (long_too rs ds)

  stands_next_too : slice_get rs i ≡ Some x
  stands_next_too =
      let size : length items ≡ length rs = ap length was ∙ long_too rs (take i by) in
      sym (next_stands_too rs i by) ∙ ap (λ (xs : List ReplicaSeat). slice_get xs i) (sym was) ∙ there_get items i x (omega (arith, size, less, same)) is

  pub replica_clock : AllByRecursion (λ (r : ReplicaSeat). r.clock ≤ 2 ^ 62) rs → x.clock ≤ 2 ^ 62
  replica_clock h = each_at (λ (r : ReplicaSeat). r.clock ≤ 2 ^ 62) rs i x h stands_next_too

  pub replica_next : set items i (record x { clock = x.clock + get_or by i 0 }) ≡ replicas_later rs (take (i + 1) by)
  replica_next =
      let more : suc i ≡ i + 1 = omega arith in
      ap (λ (xs : List ReplicaSeat). set xs i (record x { clock = x.clock + get_or by i 0 })) was
      ∙ one_later_too rs i by x (get_or by i 0) stands_next_too (there_or by i less)
      ∙ ap (λ n. replicas_later rs (take n by)) more
