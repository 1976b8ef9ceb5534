use Rattle.std.proofs.Common.{◌∙◌}
use Rattle.app_meaning.specs.Programs.{std_path}
use Rattle.app_meaning.proofs.Places.{place_is_position}
use Rattle.tree_deparser.proofs.standard.std_slot.Goals as goal

pub returns : goal.returns
returns c = c.position_of_std.ensures ∙ place_is_position c.args.sc.slots.now (std_path c.args.std.now c.args.field.now)
