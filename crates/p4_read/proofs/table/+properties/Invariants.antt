use Rattle.std.proofs.Common.{◌+◌, ◌*◌}
use Rattle.p4_read.proofs.table.+properties.Given as goal

abbrev pub decreases-properties_of : goal.decreases-properties_of
decreases-properties_of l = 4 * l.left

abbrev pub decreases-default_behind_of : goal.decreases-default_behind_of
decreases-default_behind_of l = 4 * l.left + 1

abbrev pub decreases-entries_behind_of : goal.decreases-entries_behind_of
decreases-entries_behind_of l = 4 * l.left + 1

abbrev pub decreases-after_const_of : goal.decreases-after_const_of
decreases-after_const_of l = 4 * l.left + 2
