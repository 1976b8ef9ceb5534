use Rattle.std.proofs.Common.{ℕ, ◌∙◌}
use Rattle.std.specs.Prelude.{if◌then◌else◌, ◌==◌}
use Rattle.proto_model.specs.Slot.{Slot, fresh_slot}
use Rattle.proto_model.specs.SwitchState.{Switch}
use Rattle.proto_model.specs.SwitchRow.{Stale, busy_row}
use Rattle.switch_core.proofs.Turns.{taken_row}
use Rattle.switch_core.proofs.switch.Switch.on_busy.Goals as goal

pub returns : goal.returns
returns c =
    c.busy.ensures
    ∙ taken_row c.args.self.now c.take-slot.new.self c.args.flow.now.key fresh_slot c.take-slot.result
    (λ (now : ℕ) (s : Switch) (slot : Slot). if c.args.inc == s.inc then busy_row c.args.flow.now.key slot c.args.nonce c.args.mark slot.lease else Stale)
    c.take-slot.ensures.state c.take-slot.ensures.value
