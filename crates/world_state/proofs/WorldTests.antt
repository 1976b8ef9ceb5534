-- The tests of events, made of a world as it is kept.
use Rattle.std.proofs.Common.{◌≡◌, ℕ, zero, suc, ◌+◌, ◌*◌, ◌<◌, ◌≤◌, List, [], ◌∷◌, ◌++◌, length, map, refl, ap, sym, ◌∙◌, Bool, true, false, arith, All, take, get_or}
use Rattle.std.specs.Prelude.{not, ◌&&◌, ◌↔◌, IsTrue, nat_le, if◌then◌else◌}
use Rattle.std.specs.List.{list_all, AllByRecursion}
use Rattle.std.proofs.lemmas.Bool.{and_from, and_parts, le-leb, leb-true}
use Rattle.std.proofs.lemmas.List.{map-append}
use Rattle.std.proofs.lemmas.List.Elements.{All-from_recursion, recursion_from_All}
use Rattle.rp_base.specs.Clocks.{RatesHold}
use Rattle.rp_base.specs.declared.node.Node.{Node}
use Rattle.rp_base.specs.declared.event.Refusal.{Refusal}
use Rattle.rp_app.specs.Application.{zeros}
use Rattle.proto_model.specs.World.{World, ReplicaNode, numbers_from}
use Rattle.proto_model.specs.WorldStep.{Act, Refuses, Advances, refuses_if, believed_up, rates_hold, padded}
use Rattle.reroute.specs.Routes.{is_up}
use Rattle.world_state.specs.declared.nodes.ReplicaNode.{ReplicaNode as ReplicaSeat}
use Rattle.world_state.specs.declared.state.WorldState.{WorldState}
use Rattle.world_state.specs.Nodes.{replica_node, replica_nodes}
use Rattle.world_state.specs.WorldStates.{world_of}
use Rattle.world_state.proofs.NodeLists.{believed_there, counted_more}
use Rattle.world_state.proofs.Taking.{next_item}

pub believed_is : (s : WorldState) (node : Node) → length s.router.believed ≡ length s.switches → is_up s.router node ≡ believed_up (world_of s) node
believed_is s (Node.Switch n) same = believed_there s.router.believed s.switches n same
believed_is s (Node.Replica n) same = refl
believed_is s Node.Master same = refl

-- ---- rates

list_hold : (p : ℕ → Bool) (P : ℕ → Type 0) → ((x : ℕ) → p x ≡ true → P x) → (xs : List ℕ) → list_all p xs ≡ true → AllByRecursion P xs
list_hold p P f [] h = tt
list_hold p P f (x ∷ xs) h = let both = and_parts (p x) (list_all p xs) h in (f x both.0, list_hold p P f xs both.1)

hold_list : (p : ℕ → Bool) (P : ℕ → Type 0) → ((x : ℕ) → P x → p x ≡ true) → (xs : List ℕ) → AllByRecursion P xs → list_all p xs ≡ true
hold_list p P f [] h = refl
hold_list p P f (x ∷ xs) h = and_from (p x) (list_all p xs) (f x h.0) (hold_list p P f xs h.1)

module _ (by : List ℕ) (ratio : ℕ) where
  rate : ℕ → ℕ → Type 0
  rate x y = 1000 * x ≤ (1000 + ratio) * y

  all_rates : rates_hold by ratio ≡ true → RatesHold by ratio
  all_rates h =
      All-from_recursion (λ x. All (λ y. 1000 * x ≤ (1000 + ratio) * y) by) by
      (list_hold (λ x. list_all (λ y. nat_le (1000 * x) ((1000 + ratio) * y)) by) (λ x. All (λ y. 1000 * x ≤ (1000 + ratio) * y) by)
      (λ x k. All-from_recursion (λ y. 1000 * x ≤ (1000 + ratio) * y) by (list_hold (λ y. nat_le (1000 * x) ((1000 + ratio) * y)) (λ y. 1000 * x ≤ (1000 + ratio) * y) (λ y l. leb-true (1000 * x) ((1000 + ratio) * y) l) by k))
      by h)

  rates_all : RatesHold by ratio → rates_hold by ratio ≡ true
  rates_all h =
      hold_list (λ x. list_all (λ y. nat_le (1000 * x) ((1000 + ratio) * y)) by) (λ x. All (λ y. 1000 * x ≤ (1000 + ratio) * y) by)
      (λ x k. hold_list (λ y. nat_le (1000 * x) ((1000 + ratio) * y)) (λ y. 1000 * x ≤ (1000 + ratio) * y) (λ y l. le-leb (1000 * x) ((1000 + ratio) * y) l) by (recursion_from_All (λ y. 1000 * x ≤ (1000 + ratio) * y) by k))
      by (recursion_from_All (λ x. All (λ y. 1000 * x ≤ (1000 + ratio) * y) by) by h)

  pub rates_are : (b : Bool) → (IsTrue b ↔ RatesHold by ratio) → b ≡ rates_hold by ratio
  rates_are true h = sym (rates_all (h.0 refl))
  rates_are false h = case (rates_hold by ratio) refl
    where
      case : (c : Bool) → rates_hold by ratio ≡ c → false ≡ c
      case true is = h.1 (all_rates is)
      case false is = refl

-- an event has one advance for each node
padded_same : (w : World) (by : List ℕ) → length by ≡ length w.switches + length w.replicas → padded w by ≡ by
padded_same w by same = front (length w.switches + length w.replicas) by (zeros (length w.switches + length w.replicas)) same
  where
    front : (n : ℕ) (xs ys : List ℕ) → length xs ≡ n → take n (xs ++ ys) ≡ xs
    front zero [] ys is = refl
    front zero (x ∷ xs) ys is = absurd (omega (arith, is))
    front (suc n) [] ys is = absurd (omega (arith, is))
    front (suc n) (x ∷ xs) ys is = ap (λ zs. x ∷ zs) (front n xs ys (omega (arith, is)))

pub time_refused : (w : World) (by : List ℕ) → length by ≡ length w.switches + length w.replicas → false ≡ rates_hold by w.terms.ratio →
    Refuses Refusal.Rates ≡ refuses_if (not (rates_hold (padded w by) w.terms.ratio)) Refusal.Rates (Advances (padded w by))
time_refused w by same is = rw (padded_same w by same, sym is) refl

pub time_goes : (w : World) (by : List ℕ) → length by ≡ length w.switches + length w.replicas → true ≡ rates_hold by w.terms.ratio →
    Advances by ≡ refuses_if (not (rates_hold (padded w by) w.terms.ratio)) Refusal.Rates (Advances (padded w by))
time_goes w by same is = rw (padded_same w by same, sym is) refl

-- ---- running replicas

pub replica_counted : (rs : List ReplicaSeat) (i : ℕ) (r : ReplicaSeat) → i < length rs → r ≡ get_or rs i r →
    length (numbers_from (λ (n : ReplicaNode). n.runs) 0 (replica_nodes (take (i + 1) rs))) ≡
    (if r.runs then length (numbers_from (λ (n : ReplicaNode). n.runs) 0 (replica_nodes (take i rs))) + 1 else length (numbers_from (λ (n : ReplicaNode). n.runs) 0 (replica_nodes (take i rs))))
replica_counted rs i r less is =
    ap (λ xs. length (numbers_from (λ (n : ReplicaNode). n.runs) 0 (replica_nodes xs))) (next_item rs i r r less refl is)
    ∙ ap (λ xs. length (numbers_from (λ (n : ReplicaNode). n.runs) 0 xs)) (map-append replica_node (take i rs) (r ∷ []))
    ∙ counted_more (λ (n : ReplicaNode). n.runs) 0 (replica_nodes (take i rs)) (replica_node r)

pub counted_if : (rs : List ReplicaSeat) (i : ℕ) (r : ReplicaSeat) → i < length rs → r ≡ get_or rs i r → (b : Bool) → r.runs ≡ b →
    (if b then length (numbers_from (λ (n : ReplicaNode). n.runs) 0 (replica_nodes (take i rs))) + 1 else length (numbers_from (λ (n : ReplicaNode). n.runs) 0 (replica_nodes (take i rs)))) ≡
    length (numbers_from (λ (n : ReplicaNode). n.runs) 0 (replica_nodes (take (i + 1) rs)))
counted_if rs i r less is b runs =
    let before = length (numbers_from (λ (n : ReplicaNode). n.runs) 0 (replica_nodes (take i rs))) in
    ap (λ c. if c then before + 1 else before) (sym runs) ∙ sym (replica_counted rs i r less is)
