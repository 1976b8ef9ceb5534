use Rattle.std.proofs.Common.{◌≡◌, ◌++◌, take}
use Rattle.p4_print.specs.Text.{text}
use Rattle.p4_print.specs.Shared.{all}
use Rattle.p4_print.specs.Tables.{act_tokens}
use Rattle.p4_print.proofs.table.write_names.Given as goal

abbrev pub invariant-loop-name : goal.invariant-loop-name
invariant-loop-name l = l.out ≡ l.fn.out ++ text (all act_tokens (take l.name-index l.names))
