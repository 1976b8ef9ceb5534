use Rattle.std.proofs.Common.{ℕ}
use Rattle.std.specs.Prelude.{if◌then◌else◌, ◌&&◌, ◌==◌}
use Rattle.proto_model.specs.Slot.{Slot, fresh_slot}
use Rattle.proto_model.specs.SwitchState.{Switch}
use Rattle.proto_model.specs.SwitchRow.{Stale, ack_row, has_epoch}
use Rattle.switch_core.proofs.Turns.{gives, taken_row}
use Rattle.switch_core.proofs.switch.Switch.on_ack.Goals as goal

pub returns : goal.returns
returns c =
    gives c.ack.result c.ack.new.self _ _
    (taken_row c.args.self.now c.take-slot.new.self c.args.flow.now.key fresh_slot c.take-slot.result
    (λ (now : ℕ) (s : Switch) (slot : Slot). if (c.args.inc == s.inc) && has_epoch slot.lease c.args.epoch then ack_row s.terms.mode c.args.flow.now.key slot c.args.upto c.args.load.now else Stale)
    c.take-slot.ensures.state c.take-slot.ensures.value)
    c.ack.ensures
