use Rattle.std.proofs.Common.{◌≡◌, ◌++◌, take}
use Rattle.std.specs.List.{flat_map}
use Rattle.rp_frame.specs.Spelling.{value_bytes}
use Rattle.rp_frame.proofs.writing.put_values.Given as goal

abbrev pub invariant-loop-v : goal.invariant-loop-v
invariant-loop-v l = l.out ≡ l.fn.out ++ flat_map value_bytes (take l.v-index l.cells)
