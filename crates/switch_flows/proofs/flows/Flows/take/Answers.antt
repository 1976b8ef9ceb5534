use Rattle.std.proofs.Common.{◌≡◌, ◌∙◌, ap, sym, Some}
use Rattle.indexmap.specs.IndexMap.{set_value_at}
use Rattle.proto_model.specs.Slot.{Slot, fresh_slot, lapsed_slot}
use Rattle.switch_flows.specs.Kept.{seen}
use Rattle.switch_flows.proofs.Seen.{here, put_seen, put_keeps, got_seen, put_place}
use Rattle.switch_flows.proofs.flows.Flows.take.Goals as goal

pub index_mut-requires : goal.index_mut-requires
index_mut-requires c = here c.self.inside.rows.entries c.self.inside.copies c.self.inside.latest c.args.self.now c.self.view_is c.args.flow.now.key c.args.flow.now.place c.requires

pub invariant_of-self : goal.invariant_of-self
invariant_of-self c = put_keeps c.self.inside.rows.entries c.self.inside.copies c.self.inside.latest c.args.self.now c.self.view_is c.args.flow.now.key c.args.flow.now.place c.replace-slot.new.dest c.requires c.self.invariant

pub returns-clause-value : goal.returns-clause-value
returns-clause-value c =
    got_seen c.self.inside.rows.entries c.self.inside.copies c.self.inside.latest c.args.self.now c.self.view_is c.args.flow.now.key c.args.flow.now.place c.index_mut.result.now c.requires c.index_mut.ensures.value
    ∙ ap Some (ap (lapsed_slot c.self.inside.latest) (sym c.replace-slot.ensures.value) ∙ sym c.lapse.ensures.slot)

pub returns-clause-slots : goal.returns-clause-slots
returns-clause-slots c =
    let fresh : c.replace-slot.new.dest ≡ fresh_slot = c.replace-slot.ensures.after ∙ c.fresh-fresh.ensures in
    ap (λ (w : Slot). seen (set_value_at c.self.inside.rows.entries c.args.flow.now.place w) c.self.inside.copies c.self.inside.latest) fresh
    ∙ put_seen c.self.inside.rows.entries c.self.inside.copies c.self.inside.latest c.args.self.now c.self.view_is c.args.flow.now.key c.args.flow.now.place fresh_slot c.requires tt

pub returns-clause-place : goal.returns-clause-place
returns-clause-place c = put_place c.self.inside.rows.entries c.self.inside.copies c.self.inside.latest c.args.self.now c.self.view_is c.args.flow.now.key c.args.flow.now.place c.replace-slot.new.dest c.requires
