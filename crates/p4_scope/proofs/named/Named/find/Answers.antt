use Rattle.std.proofs.Common.{◌≡◌, sym, ap, ◌∙◌, arith}
use Rattle.std.proofs.lemmas.Grind.{common_steps}
use Rattle.std.specs.Prelude.{bytes_eq}
use Rattle.std.specs.Map.{lookup}
use Rattle.std.specs.Ordering.{is_eq, nat_cmp}
use Rattle.std.specs.Cmp.Lexicographic.{slice_cmp}
use Rattle.p4_scope.specs.Index.{at_place}
use Rattle.p4_scope.proofs.Places.{looked}
use Rattle.p4_scope.proofs.named.Named.find.Goals as goal

pub returns : goal.returns
returns g c =
    let es = c.self.inside.order.items in
    let name = c.args.name.now in
    let place : c.copied.result ≡ lookup (λ k. is_eq (slice_cmp nat_cmp name k.items)) c.self.inside.places.entries = grind (arith, common_steps) in
    let all : c.value_at.result ≡ at_place name es c.copied.result = grind (arith, common_steps) in
    all ∙ (ap (at_place name es) place ∙ (sym (looked es _ c.self.invariant name) ∙ ap (lookup (bytes_eq name)) c.self.view_is))
