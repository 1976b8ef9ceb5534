use Rattle.std.proofs.Common.{◌≡◌, take}
use Rattle.key_table.specs.Table.{keys}
use Rattle.switch_flows.specs.Kept.{AreFlows, copies_of}
use Rattle.switch_flows.proofs.Leading.{turned}
use Rattle.switch_flows.proofs.resending.resend_due.Given as goal

abbrev pub ghosts-due_names : goal.ghosts-due_names
ghosts-due_names a = record { name = a.blank.name; parts = a.blank.parts }

abbrev pub invariant-loop-i : goal.invariant-loop-i
invariant-loop-i l = record {
  flows : AreFlows (keys l.rows.entries) l.copies l.now;
  copies : l.copies.copies ≡ turned l.now l.fn.copies.copies l.i;
  due : l.due.items ≡ copies_of (keys l.rows.entries) (take l.i l.fn.copies.copies);
}
