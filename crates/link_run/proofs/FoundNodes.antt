-- A frame that is found for a node was sent to it.
use Rattle.std.proofs.Common.{◌≡◌, ℕ, ◌+◌, ◌<◌, List, [], ◌∷◌, Some, Bool, true, false, suc, length, slice_get, refl, ap, arith, eqb-true}
use Rattle.std.proofs.lemmas.Grind.{common_steps}
use Rattle.std.specs.Prelude.{◌&&◌, if◌then◌else◌}
use Rattle.std.specs.Str.{bytes_eq}
use Rattle.std.proofs.lemmas.Bool.{and_parts, false≢true}
use Rattle.proto_data.specs.declared.message.Msg.{Msg}
use Rattle.proto_model.specs.Handing.{found_from}
use Rattle.rp_base.specs.declared.node.Node.{Node}
use Rattle.rp_base.specs.Nodes.{same_node}

pub same_node-true : (a b : Node) → same_node a b ≡ true → a ≡ b
same_node-true (Node.Switch n) (Node.Switch m) e = ap (λ k. Node.Switch k) (eqb-true n m e)
same_node-true (Node.Replica n) (Node.Replica m) e = ap (λ k. Node.Replica k) (eqb-true n m e)
same_node-true Node.Master Node.Master e = refl
same_node-true (Node.Switch n) (Node.Replica m) e = absurd (false≢true e)
same_node-true (Node.Switch n) Node.Master e = absurd (false≢true e)
same_node-true (Node.Replica n) (Node.Switch m) e = absurd (false≢true e)
same_node-true (Node.Replica n) Node.Master e = absurd (false≢true e)
same_node-true Node.Master (Node.Switch m) e = absurd (false≢true e)
same_node-true Node.Master (Node.Replica m) e = absurd (false≢true e)

-- the frame at a place goes to this node
pub record GoesTo (to : Node) (ms : List Msg) (place : ℕ) : Type 0 where
  pub msg : Msg
  pub stands : slice_get ms place ≡ Some msg
  pub within : place < length ms
  pub same : same_node msg.to to ≡ true

pub found_goes : (spelled : Msg → List ℕ) (to : Node) (bytes : List ℕ) (k i : ℕ) (ms : List Msg) → found_from spelled to bytes k ms ≡ Some i → (place : ℕ) × ((i ≡ k + place) × GoesTo to ms place)
found_goes spelled to bytes k i [] e = grind (arith, common_steps)
found_goes spelled to bytes k i (m ∷ ms) e = by (same_node m.to to && bytes_eq (spelled m) bytes) refl e (λ e. found_goes spelled to bytes (k + 1) i ms e)
  where
    by : (b : Bool) → (same_node m.to to && bytes_eq (spelled m) bytes) ≡ b → (if b then Some k else found_from spelled to bytes (k + 1) ms) ≡ Some i →
        (found_from spelled to bytes (k + 1) ms ≡ Some i → (place : ℕ) × ((i ≡ k + 1 + place) × GoesTo to ms place)) → (place : ℕ) × ((i ≡ k + place) × GoesTo to (m ∷ ms) place)
    by true t e more = (0, (grind (arith, common_steps), record { msg = m; stands = refl; within = omega arith; same = (and_parts _ _ t).0 }))
    by false t e more =
        let r = more e in
        (suc r.0, (omega (arith, r.1.0), record { msg = r.1.1.msg; stands = r.1.1.stands; within = omega (arith, r.1.1.within); same = r.1.1.same }))
