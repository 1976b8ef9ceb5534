use Rattle.std.proofs.Common.{◌∙◌, refl}
use Rattle.std.specs.Prelude.{if◌then◌else◌, ◌&&◌, ◌==◌}
use Rattle.key_table.specs.Table.{Key}
use Rattle.proto_data.specs.declared.message.Body.{Body}
use Rattle.proto_model.specs.Slot.{Slot}
use Rattle.proto_model.specs.SwitchState.{slot_at}
use Rattle.proto_model.specs.SwitchRow.{Denied, Stale, ack_row, at_slot, busy_row, has_epoch}
use Rattle.switch_core.proofs.Turns.{gives, msg_known}
use Rattle.switch_core.proofs.switch.Switch.on_msg.Goals as goal

pub returns-in-Some-find : goal.returns-in-Some-find
returns-in-Some-find g c =
    gives c.on_ack.result c.on_ack.new.self _ _
    (msg_known (g.A.App.meaning c.args.app.now) c.args.self.now c.args.msg.now.body (Body.Ack c.in-Ack.inc c.in-Ack.epoch c.in-Ack.upto c.in-Ack.key c.in-Ack.load)
    (λ (k : Key). at_slot (slot_at c.args.self.now.state k) (λ (slot : Slot). if (c.in-Ack.inc == c.args.self.now.state.inc) && has_epoch slot.lease c.in-Ack.epoch then ack_row c.args.self.now.state.terms.mode k slot c.in-Ack.upto c.in-Ack.load else Stale))
    c.in-Some-find.flow.key c.in-Ack.key c.in-Some-find.ensures.key c.in-Ack.is refl)
    c.on_ack.ensures

pub returns-in-Some-find-2 : goal.returns-in-Some-find-2
returns-in-Some-find-2 g c =
    c.on_deny.ensures
    ∙ msg_known (g.A.App.meaning c.args.app.now) c.args.self.now c.args.msg.now.body (Body.Deny c.in-Deny.inc c.in-Deny.epoch c.in-Deny.key)
    (λ (k : Key). at_slot (slot_at c.args.self.now.state k) (λ (slot : Slot). if (c.in-Deny.inc == c.args.self.now.state.inc) && has_epoch slot.lease c.in-Deny.epoch then Denied k slot else Stale))
    c.in-Some-find-2.flow.key c.in-Deny.key c.in-Some-find-2.ensures.key c.in-Deny.is refl

pub returns-in-Some-find-3 : goal.returns-in-Some-find-3
returns-in-Some-find-3 g c =
    c.on_busy.ensures
    ∙ msg_known (g.A.App.meaning c.args.app.now) c.args.self.now c.args.msg.now.body (Body.Busy c.in-Busy.inc c.in-Busy.nonce c.in-Busy.key c.in-Busy.mark)
    (λ (k : Key). at_slot (slot_at c.args.self.now.state k) (λ (slot : Slot). if c.in-Busy.inc == c.args.self.now.state.inc then busy_row k slot c.in-Busy.nonce c.in-Busy.mark slot.lease else Stale))
    c.in-Some-find-3.flow.key c.in-Busy.key c.in-Some-find-3.ensures.key c.in-Busy.is refl
