use Rattle.std.proofs.Common.{◌≡◌, sym}
use Rattle.proto_model.specs.Ring.{forget}
use Rattle.switch_slot.proofs.Marks.{forget_absent}
use Rattle.switch_slot.proofs.slot.Slot.release.Goals as goal

pub returns-then-not-remembers-clause-slot : goal.returns-then-not-remembers-clause-slot
returns-then-not-remembers-clause-slot c =
    let absent : forget c.self.inside.held c.in-Some.carried.mark ≡ c.self.inside.held = forget_absent _ _ (sym c.if-not-remembers.ensures) in
    rw (c.in-Some.is, ← c.self.view_is, absent)
