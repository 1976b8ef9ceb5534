use Rattle.std.proofs.Common.{◌≡◌, ◌<◌}
use Rattle.std.specs.Prelude.{All}
use Rattle.mirror_buf.proofs.tests.every_second_slot_is_acknowledged.Given as goal

abbrev pub invariant-loop-half : goal.invariant-loop-half
invariant-loop-half g l = record {
  slots : l.buffer.slots ≡ 16;
  sent : All (λ c. c.1.sent < 1024) l.buffer.copies;
}

abbrev pub ghosts-named_as : goal.ghosts-named_as
ghosts-named_as g a = record { name = a.blank.name; parts = a.blank.parts }
