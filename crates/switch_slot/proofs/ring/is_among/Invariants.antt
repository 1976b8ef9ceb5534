use Rattle.std.proofs.Common.{◌≡◌, take, false}
use Rattle.proto_model.specs.Ring.{holds}
use Rattle.std.specs.List.{list_any}
use Rattle.switch_slot.proofs.ring.is_among.Given as goal

abbrev pub invariant-loop-place : goal.invariant-loop-place
invariant-loop-place l = list_any (holds l.mark) (take l.place-index l.places) ≡ false
