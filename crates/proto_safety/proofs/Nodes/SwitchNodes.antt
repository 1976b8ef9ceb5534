-- What holds of each switch, by its number, under the changes of a world.
use Rattle.std.proofs.Common.{◌≡◌, ◌≢◌, ◌⊎◌, ℕ, ◌+◌, List, [], ◌∷◌, map, Some, arith, refl, subst, zero, suc, slice_get, set, inl, inr}
use Rattle.std.specs.List.{range_with_len}
use Rattle.proto_model.specs.World.{Setup, SwitchNode, open_switch_node, below}
use Rattle.proto_model.specs.WorldStep.{changed_at, advanced_switches}
use Rattle.proto_safety.proofs.Basics.Lists.{at_changed, at_set}

abbrev pub AllAt : (ℕ → SwitchNode → Type 0) → List SwitchNode → Type 0
AllAt P nodes = (n : ℕ) (node : SwitchNode) → slice_get nodes n ≡ Some node → P n node

module _ (P : ℕ → SwitchNode → Type 0) where
  -- one switch stands otherwise
  pub all_set : (nodes : List SwitchNode) (n : ℕ) (new : SwitchNode) → P n new → AllAt P nodes → AllAt P (set nodes n new)
  all_set nodes n new p h m other is = node_case (at_set nodes n m new other is)
    where
      node_case : ((m ≡ n) × (other ≡ new)) ⊎ ((m ≢ n) × (slice_get nodes m ≡ Some other)) → P m other
      node_case (inl same) = rw (same.0, same.1) p
      node_case (inr there) = h m other there.1

  pub all_changed : (nodes : List SwitchNode) (n : ℕ) (f : SwitchNode → SwitchNode) → ((m : ℕ) (x : SwitchNode) → P m x → P m (f x)) → AllAt P nodes → AllAt P (changed_at nodes n f)
  all_changed nodes n f k h m node at = node_case (at_changed nodes n m f node at)
    where
      node_case : ((m ≡ n) × ((x : SwitchNode) × ((slice_get nodes m ≡ Some x) × (node ≡ f x)))) ⊎ ((m ≢ n) × (slice_get nodes m ≡ Some node)) → P m node
      node_case (inl p) = rw p.1.1.1 (k m p.1.0 (h m p.1.0 p.1.1.0))
      node_case (inr p) = h m node p.1

  advanced_from : (k : ℕ) (nodes : List SwitchNode) (by : List ℕ) → ((m d : ℕ) (x : SwitchNode) → P m x → P m (record x { clock = x.clock + d })) → ((n : ℕ) (node : SwitchNode) → slice_get nodes n ≡ Some node → P (k + n) node) →
      (n : ℕ) (node : SwitchNode) → slice_get (advanced_switches nodes by) n ≡ Some node → P (k + n) node
  advanced_from k [] by f h n node at = cc
  advanced_from k (x ∷ xs) [] f h n node at = h n node at
  advanced_from k (x ∷ xs) (d ∷ ds) f h zero node at = let same : record x { clock = x.clock + d } ≡ node = cc in subst (λ y. P (k + 0) y) same (f (k + 0) d x (h zero x refl))
  advanced_from k (x ∷ xs) (d ∷ ds) f h (suc n) node at =
      let e : k + suc n ≡ k + 1 + n = omega arith in
      rw e (advanced_from (k + 1) xs ds f (λ m y is. let g : k + 1 + m ≡ k + suc m = omega arith in rw g (h (suc m) y is)) n node at)

  -- clocks go on
  pub all_advanced : (nodes : List SwitchNode) (by : List ℕ) → ((m d : ℕ) (x : SwitchNode) → P m x → P m (record x { clock = x.clock + d })) → AllAt P nodes → AllAt P (advanced_switches nodes by)
  all_advanced nodes by f h n node at =
      let e : 0 + n ≡ n = omega arith in
      subst (λ i. P i node) e (advanced_from 0 nodes by f (λ m y is. let g : 0 + m ≡ m = omega arith in rw g (h m y is)) n node at)

  opened_from : (setup : Setup) (k from : ℕ) → ((n : ℕ) → P n (open_switch_node setup n)) → (n : ℕ) (node : SwitchNode) → slice_get (map (open_switch_node setup) (range_with_len from k)) n ≡ Some node → P (from + n) node
  opened_from setup zero from h n node at = cc
  opened_from setup (suc k) from h zero node at = let e : from + 0 ≡ from = omega arith in rw e (let same : open_switch_node setup from ≡ node = cc in subst (λ y. P from y) same (h from))
  opened_from setup (suc k) from h (suc n) node at = let e : from + suc n ≡ from + 1 + n = omega arith in rw e (opened_from setup k (from + 1) h n node at)

  -- at the start
  pub all_opened : (setup : Setup) → ((n : ℕ) → P n (open_switch_node setup n)) → AllAt P (map (open_switch_node setup) (below setup.switches))
  all_opened setup h n node at = let e : 0 + n ≡ n = omega arith in subst (λ i. P i node) e (opened_from setup setup.switches 0 h n node at)

-- what follows at each switch
pub all_weaker : (P Q : ℕ → SwitchNode → Type 0) (nodes : List SwitchNode) → ((n : ℕ) (x : SwitchNode) → P n x → Q n x) → AllAt P nodes → AllAt Q nodes
all_weaker P Q nodes k h n node at = k n node (h n node at)
