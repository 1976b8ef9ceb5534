use Rattle.std.proofs.Common.{◌∙◌, ap}
use Rattle.run_ending.specs.EpochNotes.{with_note}
use Rattle.run_ending.proofs.EpochMaps.{note_stored, note_begun}
use Rattle.run_ending.proofs.epoch_table.EpochTable.note.Goals as goal

pub returns-in-Some : goal.returns-in-Some
returns-in-Some c = note_stored c.self.inside.rows.entries c.args.self.now c.args.at c.args.note c.self.view_is c.in-Some.notes.now c.add.new.self _ c.in-Some.ensures.value c.in_ok-add.ensures (c.get_mut.follows.holds c.add.new.self).0

pub returns : goal.returns
returns c =
    note_begun c.self.inside.rows.entries c.args.self.now c.args.at c.args.note c.self.view_is c.add-2.new.self c.get_mut.follows.lender-at-none.entries _ c.in_default.ensures.value
    (c.in_ok-add-2.ensures ∙ ap (λ n. with_note n c.args.note) c.new-notes.ensures) (ap (λ m. m.entries) c.get_mut.follows.holds-at-none) c.in_ok-insert.ensures.entries
