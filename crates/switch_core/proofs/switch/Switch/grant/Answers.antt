use Rattle.std.proofs.Common.{◌≡◌, ◌∙◌, ◌+◌, ap, sym, true}
use Rattle.std.specs.Prelude.{nat_lt}
use Rattle.proto_model.specs.Slot.{Asking, is_young}
use Rattle.switch_slot.specs.Leases.{lease_of}
use Rattle.switch_core.specs.States.{SwitchAt, stepped}
use Rattle.switch_core.proofs.Over.{timely}
use Rattle.switch_core.proofs.Turns.{gives}
use Rattle.switch_core.proofs.switch.Switch.grant.Goals as goal

pub returns-then-young : goal.returns-then-young
returns-then-young g c =
    let asking : c.args.slot.lease ≡ Asking c.in-Asking.asking.nonce c.in-Asking.asking.first = sym c.lease.ensures ∙ ap lease_of c.in-Asking.is in
    let young : is_young c.args.self.now.state.terms.t_switch c.in-Asking.asking.first c.args.self.now.latest ≡ true =
    ap (λ (s : SwitchAt). is_young s.state.terms.t_switch c.in-Asking.asking.first s.latest) (sym c.self.view_is)
    ∙ ap (λ n. nat_lt n (c.in-Asking.asking.first + c.self.inside.terms.t_switch)) (sym c.latest-now.ensures)
    ∙ sym c.if-young.ensures in
    gives c.on_timely_grant.result c.on_timely_grant.new.self _ _
    (ap (stepped c.args.self.now)
    (timely (g.A.App.meaning c.args.app.now) c.args.self.now.state c.args.self.now.latest c.args.flow.now.key c.args.slot c.args.nonce c.args.epoch c.args.cells.now c.args.load.now c.in-Asking.asking.nonce c.in-Asking.asking.first
    asking (sym c.nonce.ensures ∙ c.if-nonce.false) young))
    c.on_timely_grant.ensures
