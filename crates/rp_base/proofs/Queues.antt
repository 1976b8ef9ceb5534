-- The first of a node's datagrams is taken out of those that wait.
use Rattle.std.proofs.Common.{◌≡◌, ℕ, zero, suc, ◌≤◌, ◌<◌, List, [], ◌∷◌, length, get_or, map, Some, None, Bool, true, false, cond, not, arith, refl, ap, ◌∙◌, sym, subst}
use Rattle.std.specs.List.{position, position_or_len, remove, filter}
use Rattle.std.proofs.lemmas.Bool.{not-true, eqb-true}
use Rattle.std.proofs.lemmas.List.Sums.{prefix_len_passes}
use Rattle.std.proofs.lemmas.List.Quantifiers.{position-Some}
use Rattle.rp_base.specs.declared.node.Node.{Node}
use Rattle.rp_base.specs.declared.mem_link.Waiting.{Waiting}
use Rattle.rp_base.specs.Memory.{queue_of, Leaves}
use Rattle.rp_base.specs.Nodes.{same_node}

one_node : (a b : Node) → same_node a b ≡ true → a ≡ b
one_node (Node.Switch n) (Node.Switch m) h = ap Node.Switch (eqb-true n m h)
one_node (Node.Replica n) (Node.Replica m) h = ap Node.Replica (eqb-true n m h)
one_node Node.Master Node.Master h = refl
one_node (Node.Switch n) (Node.Replica m) h = absurd cc
one_node (Node.Switch n) Node.Master h = absurd cc
one_node (Node.Replica n) (Node.Switch m) h = absurd cc
one_node (Node.Replica n) Node.Master h = absurd cc
one_node Node.Master (Node.Switch m) h = absurd cc
one_node Node.Master (Node.Replica m) h = absurd cc

module _ {X : Type 0} where
  passed : (p : X → Bool) (x : X) (xs : List X) → p x ≡ false → filter p (x ∷ xs) ≡ filter p xs
  passed p x xs h = rw h refl

  kept : (p : X → Bool) (x : X) (xs : List X) → p x ≡ true → filter p (x ∷ xs) ≡ x ∷ filter p xs
  kept p x xs h = rw h refl

  filter-none : (p : X → Bool) (xs : List X) → ((k : ℕ) (d : X) → k < length xs → p (get_or xs k d) ≡ false) → filter p xs ≡ []
  filter-none p [] h = refl
  filter-none p (x ∷ xs) h = passed p x xs (h 0 x (omega arith)) ∙ filter-none p xs (λ k d lt. h (suc k) d (omega arith))

  filter-first : (p : X → Bool) (xs : List X) (i : ℕ) (x : X) → i < length xs → get_or xs i x ≡ x → p x ≡ true → ((k : ℕ) → k < i → p (get_or xs k x) ≡ false) → filter p xs ≡ x ∷ filter p (remove xs i)
  filter-first p [] i x lt is here h = absurd (omega arith)
  filter-first p (y ∷ ys) zero x lt is here h = kept p y ys (ap p is ∙ here) ∙ ap (λ z. z ∷ filter p ys) is
  filter-first p (y ∷ ys) (suc i) x lt is here h =
      passed p y ys (h 0 (omega arith)) ∙ filter-first p ys i x (omega arith) is here (λ k lt. h (suc k) (omega arith))
      ∙ ap (λ l. x ∷ l) (sym (passed p y (remove ys i) (h 0 (omega arith))))

  filter-others : (p : X → Bool) (xs : List X) (i : ℕ) (x : X) → i < length xs → get_or xs i x ≡ x → p x ≡ false → filter p (remove xs i) ≡ filter p xs
  filter-others p [] i x lt is not_here = absurd (omega arith)
  filter-others p (y ∷ ys) zero x lt is not_here = sym (passed p y ys (ap p is ∙ not_here))
  filter-others p (y ∷ ys) (suc i) x lt is not_here = ap (λ l. cond (p y) (y ∷ l) l) (filter-others p ys i x (omega arith) is not_here)

  none_before : (p : X → Bool) (xs : List X) → position p xs ≡ None → (k : ℕ) (d : X) → k < length xs → p (get_or xs k d) ≡ false
  none_before p xs e k d lt =
      let full : length xs ≤ position_or_len p xs = grind arith in
      not-true _ (prefix_len_passes (λ x. not (p x)) xs k d (omega arith))

pub nothing_waits : (node : Node) (ws : List Waiting) → position (λ w. same_node w.to node) ws ≡ None → queue_of node ws ≡ []
nothing_waits node ws e = ap (λ (l : List Waiting). map (λ w. w.bytes) l) (filter-none (λ w. same_node w.to node) ws (none_before (λ w. same_node w.to node) ws e))

pub first_leaves : (node : Node) (ws : List Waiting) (i : ℕ) (w : Waiting) → position (λ w. same_node w.to node) ws ≡ Some i → get_or ws i w ≡ w → Leaves node w.bytes ws (remove ws i)
first_leaves node ws i w e is =
    let found = position-Some (λ (w : Waiting). same_node w.to node) ws i w e in
    let here : same_node w.to node ≡ true = ap (λ (x : Waiting). same_node x.to node) (sym is) ∙ found.1 in
    record {
      first = ap (λ (l : List Waiting). map (λ w. w.bytes) l) (filter-first (λ w. same_node w.to node) ws i w found.0 is here found.2);
      others = λ other apart. ap (λ (l : List Waiting). map (λ w. w.bytes) l)
          (filter-others (λ w. same_node w.to other) ws i w found.0 is (subst (λ (n : Node). same_node n other ≡ false) (sym (one_node w.to node here)) apart));
    }
