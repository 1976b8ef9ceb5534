use Rattle.std.proofs.Common.{◌≡◌}
use Rattle.tree_parser.specs.Parsed.{fields}
use Rattle.tree_parser.proofs.field.fields.Given as goal

abbrev pub invariant-loop-more : goal.invariant-loop-more
invariant-loop-more l = fields l.more l.i (record { values = l.values; left = l.left }) ≡ fields l.fn.count l.fn.first (record { values = l.fn.values; left = l.fn.left })

abbrev pub decreases-loop-more : goal.decreases-loop-more
decreases-loop-more l = l.more
