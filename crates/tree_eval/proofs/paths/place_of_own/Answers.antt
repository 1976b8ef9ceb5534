use Rattle.std.proofs.Common.{◌∙◌, ◌∷◌, []}
use Rattle.app_meaning.specs.Slots.{text}
use Rattle.app_meaning.proofs.Places.{place_is_position}
use Rattle.tree_eval.proofs.paths.place_of_own.Goals as goal

pub returns : goal.returns
returns c = c.position_of_own.ensures ∙ place_is_position c.args.slots.now (c.args.action.now ∷ text c.args.name.now ∷ [])
