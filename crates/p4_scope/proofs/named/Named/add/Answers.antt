use Rattle.std.proofs.Common.{◌≡◌, ℕ, List, ◌∷◌, ◌++◌, [], length, cond, Option, Some, None, sym, ap, ◌∙◌, arith}
use Rattle.std.proofs.lemmas.Grind.{common_steps}
use Rattle.std.specs.Prelude.{bytes_eq, slice_get}
use Rattle.std.specs.Map.{lookup}
use Rattle.std.specs.Ordering.{is_eq, nat_cmp}
use Rattle.std.specs.Cmp.Lexicographic.{slice_cmp}
use Rattle.std.proofs.lemmas.Map.Text.{is_eq-slice_cmp}
use Rattle.p4_scope.proofs.Places.{pushed, inserted}
use Rattle.p4_scope.proofs.named.Named.add.Goals as goal

pub invariant_of-self-2 : goal.invariant_of-self-2
invariant_of-self-2 g c =
    let name = c.args.name.now in
    let old = c.self.inside.order.items in
    let find : List ℕ → Option ℕ = λ x. lookup (λ k. is_eq (slice_cmp nat_cmp x k.items)) c.self.inside.places.entries in
    let len : c.len-place.result ≡ length old = grind (arith, common_steps) in
    let text : c.push.new.self.items ≡ old ++ (name, c.args.value) ∷ [] = grind (arith, common_steps) in
    let absent : lookup (bytes_eq name) old ≡ None = ap (lookup (bytes_eq name)) c.self.view_is ∙ c.requires in
    let new : (y : List ℕ) → lookup (λ k. is_eq (slice_cmp nat_cmp y k.items)) c.insert.new.self.entries ≡ cond (bytes_eq y name) (Some (length old)) (find y) = λ y. ap (lookup (λ k. is_eq (slice_cmp nat_cmp y k.items))) c.in_ok-insert.ensures.entries
    ∙ (inserted (λ k. k.items) c.self.inside.places.entries c.in_ok-key.key c.len-place.result y
    ∙ (ap (λ b. cond b (Some c.len-place.result) (find y)) (is_eq-slice_cmp y c.in_ok-key.key.items ∙ ap (bytes_eq y) c.in_ok-key.ensures.items)
    ∙ ap (λ n. cond (bytes_eq y name) (Some n) (find y)) len)) in
    let index = pushed old find _ name c.args.value c.self.invariant absent new in
    λ i e s. index i e (ap (λ es. slice_get es i) (sym text) ∙ s)
