use Rattle.std.proofs.Common.{◌∙◌, map}
use Rattle.app_meaning.specs.Slots.{text}
use Rattle.app_meaning.proofs.Places.{place_is_position}
use Rattle.tree_eval.proofs.paths.place.Goals as goal

pub returns : goal.returns
returns c = c.position_of.ensures ∙ place_is_position c.args.slots.now (map text c.args.names.now)
