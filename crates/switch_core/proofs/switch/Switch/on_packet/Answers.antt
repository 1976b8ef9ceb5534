use Rattle.std.proofs.Common.{◌∙◌, ◌^◌, ap, sym, arith, Some}
use Rattle.proto_model.specs.Slot.{fresh_slot}
use Rattle.switch_core.proofs.Turns.{gives, packet_leased, taken_from}
use Rattle.switch_core.proofs.switch.Switch.on_packet.Goals as goal

pub leased-requires-clause-taken : goal.leased-requires-clause-taken
leased-requires-clause-taken g c =
    taken_from (g.A.App.meaning c.args.app.now).cell_count (2 ^ 61) c.args.self.now c.take-slot.new.self c.in-Some-find.flow.key fresh_slot c.take-slot.result
    c.take-slot.ensures.state
    c.requires.steady (omega arith)
    c.take-slot.ensures.value

pub returns-in-Some-find : goal.returns-in-Some-find
returns-in-Some-find g c =
    gives c.leased.result c.leased.new.self _ _
    (packet_leased (g.A.App.meaning c.args.app.now) c.args.self.now c.take-slot.new.self c.args.packet.now c.in-Some-find.flow.key fresh_slot c.take-slot.result
    c.take-slot.ensures.state
    (sym c.in_ok-key.ensures ∙ c.in-Some.is ∙ ap Some (sym c.in-Some-find.ensures.key))
    c.take-slot.ensures.value)
    c.leased.ensures
