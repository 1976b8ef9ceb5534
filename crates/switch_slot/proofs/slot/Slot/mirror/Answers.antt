use Rattle.std.proofs.Common.{◌<◌, All, length, subst, sym}
use Rattle.rp_app.specs.Application.{cells_named}
use Rattle.rp_app.proofs.Deltas.{each_below}
use Rattle.proto_model.specs.Slot.{Slot}
use Rattle.switch_slot.specs.Slots.{cells_of}
use Rattle.switch_slot.proofs.slot.Slot.mirror.Goals as goal

pub write-requires : goal.write-requires
write-requires c =
    each_below (length (cells_of c.self.inside.cells).cells) c.args.delta.now
    (subst (λ (s : Slot). All (λ n. n < length s.cells) (cells_named c.args.delta.now)) (sym c.self.view_is) c.requires.cells)
