use Rattle.std.proofs.Common.{◌∙◌, ap}
use Rattle.run_ending.specs.EpochTable.{find_notes}
use Rattle.run_ending.proofs.EpochMaps.{lookup_find}
use Rattle.run_ending.proofs.epoch_table.EpochTable.get.Goals as goal

pub returns : goal.returns
returns c = c.get.ensures.value ∙ lookup_find c.self.inside.rows.entries c.args.at.now ∙ ap (λ t. find_notes t c.args.at.now) c.self.view_is
