use Rattle.std.proofs.Common.{◌≡◌, ◌++◌}
use Rattle.app_meaning.specs.Packets.{field_bits}
use Rattle.tree_deparser.proofs.field.put_fields.Given as goal

abbrev pub invariant-loop-left : goal.invariant-loop-left
invariant-loop-left l = l.out ++ field_bits l.left l.i l.values ≡ l.fn.out ++ field_bits l.fn.count l.fn.first l.values

abbrev pub decreases-loop-left : goal.decreases-loop-left
decreases-loop-left l = l.left
