use Rattle.std.proofs.Common.{◌∙◌, ap, sym, subst}
use Rattle.key_table.specs.Table.{put, map_values}
use Rattle.key_table.proofs.KeyMaps.{insert_put}
use Rattle.proto_model.specs.Slot.{lapsed_slot}
use Rattle.switch_flows.specs.Places.{IsPlaceOf}
use Rattle.switch_flows.proofs.Seen.{made_keeps, made_seen, made_place}
use Rattle.switch_flows.proofs.flows.Flows.make.Goals as goal

pub invariant_of-self-2 : goal.invariant_of-self-2
invariant_of-self-2 c =
    let rows = c.in_ok-insert.ensures.entries ∙ (insert_put c.self.inside.rows.entries c.args.key c.fresh.result ∙ ap (put c.self.inside.rows.entries c.args.key) c.fresh.ensures) in
    made_keeps c.self.inside.rows.entries c.self.inside.copies c.self.inside.latest c.args.self.now c.self.view_is c.args.key c.insert.new.self.entries c.requires.none c.requires.room rows c.self.invariant

pub returns-clause-slots : goal.returns-clause-slots
returns-clause-slots c =
    let rows = c.in_ok-insert.ensures.entries ∙ (insert_put c.self.inside.rows.entries c.args.key c.fresh.result ∙ ap (put c.self.inside.rows.entries c.args.key) c.fresh.ensures) in
    made_seen c.self.inside.rows.entries c.self.inside.copies c.self.inside.latest c.args.self.now c.self.view_is c.args.key c.insert.new.self.entries c.requires.none rows c.self.invariant

pub returns-clause-place : goal.returns-clause-place
returns-clause-place c =
    let rows = c.in_ok-insert.ensures.entries ∙ (insert_put c.self.inside.rows.entries c.args.key c.fresh.result ∙ ap (put c.self.inside.rows.entries c.args.key) c.fresh.ensures) in
    subst (λ i. IsPlaceOf (map_values (lapsed_slot c.self.inside.latest) c.insert.new.self.entries) c.args.key i) (sym c.len-place.ensures.len)
    (made_place c.self.inside.rows.entries c.self.inside.copies c.self.inside.latest c.args.self.now c.self.view_is c.args.key c.insert.new.self.entries c.requires.none rows)
