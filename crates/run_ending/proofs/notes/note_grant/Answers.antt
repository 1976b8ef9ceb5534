use Rattle.std.proofs.Common.{◌∙◌}
use Rattle.lease_table.proofs.Cells.{on_some}
use Rattle.run_ending.proofs.GrantsOf.{grant_stored}
use Rattle.run_ending.proofs.notes.note_grant.Goals as goal

pub returns-in-Some : goal.returns-in-Some
returns-in-Some c =
    on_some c.get_mut.result c.in-Some.epochs c.in-Some.is (c.get_mut.follows.holds _)
    ∙ grant_stored c.args.grants.now c.args.entry.now c.in-Grant.key c.in-Grant.epoch _ _ _ c.in-Some.epochs.now c.push.new.self c.in-Grant.is c.in-Some.ensures.value c.in_ok-push.ensures.ok
