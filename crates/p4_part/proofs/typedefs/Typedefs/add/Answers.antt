use Rattle.std.proofs.Common.{◌≡◌, ℕ, List, map, ap, ◌∙◌, arith}
use Rattle.std.proofs.lemmas.Grind.{common_steps}
use Rattle.p4_grammar.specs.Values.{named}
use Rattle.p4_part.proofs.Names.{named_map}
use Rattle.p4_part.proofs.typedefs.Typedefs.add.Goals as goal

pub returns-clause-ok : goal.returns-clause-ok
returns-clause-ok c =
    let ks = c.self.inside.names.keys in
    let owned = c.extend_from_slice.new.self in
    let is : owned.items ≡ c.args.name.now = grind (arith, common_steps) in
    ap (map (λ name. name.items)) c.in_ok-insert.ensures.keys
    ∙ (named_map (λ name. name.items) ks owned
    ∙ (ap (λ (x : List ℕ). named (map (λ name. name.items) ks) x) is ∙ ap (λ (env : List (List ℕ)). named env c.args.name.now) c.self.view_is))
