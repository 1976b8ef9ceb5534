use Rattle.std.proofs.Common.{ℕ, ◌≡◌, ◌∙◌, ◌^◌, ap, sym, arith, true, length, eq-eqb}
use Rattle.std.specs.Prelude.{if◌then◌else◌, ◌==◌}
use Rattle.std.proofs.lemmas.Bool.{and_from}
use Rattle.proto_model.specs.Slot.{Slot, fresh_slot}
use Rattle.proto_model.specs.SwitchState.{Switch, slot_at}
use Rattle.proto_model.specs.SwitchRow.{Stale, at_slot, grant_row}
use Rattle.switch_core.specs.States.{SwitchAt, acts}
use Rattle.switch_core.proofs.Turns.{gives, taken_from, taken_row}
use Rattle.switch_core.proofs.switch.Switch.on_grant.Goals as goal

pub grant-requires-clause-taken : goal.grant-requires-clause-taken
grant-requires-clause-taken g c =
    taken_from (g.A.App.meaning c.args.app.now).cell_count (2 ^ 61) c.args.self.now c.take-slot.new.self c.args.flow.now.key fresh_slot c.take-slot.result
    c.take-slot.ensures.state
    c.requires.steady (omega arith)
    c.take-slot.ensures.value

pub returns-then-len-cells : goal.returns-then-len-cells
returns-then-len-cells g c =
    let inc : (c.args.inc == c.args.self.now.state.inc) ≡ true = eq-eqb _ _ (c.if-inc-self.true ∙ ap (λ (s : SwitchAt). s.state.inc) c.self.view_is) in
    let cells : (length c.args.cells.now == (g.A.App.meaning c.args.app.now).cell_count) ≡ true = eq-eqb _ _ (sym c.len.ensures ∙ c.if-len-cells.true ∙ c.cells.ensures) in
    gives c.grant.result c.grant.new.self _ _
    (taken_row c.args.self.now c.take-slot.new.self c.args.flow.now.key fresh_slot c.take-slot.result
    (λ (now : ℕ) (s : Switch) (slot : Slot). grant_row (g.A.App.meaning c.args.app.now) s now c.args.flow.now.key slot c.args.nonce c.args.epoch c.args.cells.now c.args.load.now slot.lease)
    c.take-slot.ensures.state
    c.take-slot.ensures.value
    ∙ ap (λ b. acts c.args.self.now (if b then at_slot (slot_at c.args.self.now.state c.args.flow.now.key) (λ (slot : Slot). grant_row (g.A.App.meaning c.args.app.now) c.args.self.now.state c.args.self.now.latest c.args.flow.now.key slot c.args.nonce c.args.epoch c.args.cells.now c.args.load.now slot.lease) else Stale)) (sym (and_from _ _ inc cells)))
    c.grant.ensures
