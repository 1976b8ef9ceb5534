use Rattle.std.proofs.Common.{◌≡◌, ◌∙◌, ap, sym, Some, None}
use Rattle.std.specs.Prelude.{unwrap_or, option_and_then}
use Rattle.key_table.specs.Table.{get}
use Rattle.key_table.proofs.KeyMaps.{lookup_get}
use Rattle.proto_model.specs.Slot.{Slot, epoch_of}
use Rattle.switch_flows.proofs.Seen.{epoch_in}
use Rattle.switch_flows.proofs.flows.Flows.epoch.Goals as goal

pub returns-in-Some : goal.returns-in-Some
returns-in-Some c =
    let found : get c.self.inside.rows.entries c.args.key.now ≡ Some c.in-Some.slot.now = sym (c.in-Some.ensures.value ∙ lookup_get c.self.inside.rows.entries c.args.key.now) in
    c.unwrap_or.ensures ∙ (ap (λ o. unwrap_or o 0) (c.epoch.ensures ∙ ap epoch_of c.lease.ensures)
    ∙ (ap (λ o. unwrap_or (option_and_then (λ (slot : Slot). epoch_of slot.lease) o) 0) (sym found) ∙ epoch_in c.self.inside.rows.entries c.self.inside.copies c.self.inside.latest c.args.self.now c.self.view_is c.args.key.now))

pub returns-in-None : goal.returns-in-None
returns-in-None c =
    let none : get c.self.inside.rows.entries c.args.key.now ≡ None = sym (c.in-None.ensures.value ∙ lookup_get c.self.inside.rows.entries c.args.key.now) in
    ap (λ o. unwrap_or (option_and_then (λ (slot : Slot). epoch_of slot.lease) o) 0) (sym none) ∙ epoch_in c.self.inside.rows.entries c.self.inside.copies c.self.inside.latest c.args.self.now c.self.view_is c.args.key.now
