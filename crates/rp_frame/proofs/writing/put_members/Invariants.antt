use Rattle.std.proofs.Common.{◌≡◌, ◌++◌, take}
use Rattle.std.specs.List.{flat_map}
use Rattle.rp_frame.specs.Spelling.{member_bytes}
use Rattle.rp_frame.proofs.writing.put_members.Given as goal

abbrev pub invariant-loop-pair : goal.invariant-loop-pair
invariant-loop-pair l = l.out ≡ l.fn.out ++ flat_map member_bytes (take l.pair-index l.pairs)
