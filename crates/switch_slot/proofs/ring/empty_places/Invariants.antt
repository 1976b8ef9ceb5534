use Rattle.std.proofs.Common.{◌≡◌}
use Rattle.circular_buffer.specs.Buffer.{buffer}
use Rattle.switch_slot.proofs.Marks.{emptied_to}
use Rattle.switch_slot.proofs.ring.empty_places.Given as goal

abbrev pub invariant-loop-i : goal.invariant-loop-i
invariant-loop-i l = l.places ≡ buffer (emptied_to l.fn.places.items l.mark l.i) l.fn.places.capacity
