use Rattle.std.proofs.Common.{ℕ, List, ap, ◌∙◌}
use Rattle.p4_grammar.specs.Values.{has}
use Rattle.p4_part.proofs.Names.{has_map}
use Rattle.p4_part.proofs.typedefs.Typedefs.has.Goals as goal

pub returns : goal.returns
returns c = c.contains.ensures ∙ (has_map (λ name. name.items) c.args.name.now c.self.inside.names.keys ∙ ap (λ (env : List (List ℕ)). has env c.args.name.now) c.self.view_is)
