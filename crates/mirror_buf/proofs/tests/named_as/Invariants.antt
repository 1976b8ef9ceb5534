use Rattle.std.specs.Prelude.{All, IsSome}
use Rattle.link_arena.specs.Lists.{find}
use Rattle.mirror_buf.proofs.tests.named_as.Given as goal

abbrev pub invariant-loop-i : goal.invariant-loop-i
invariant-loop-i g l = All (λ id. IsSome (find id l.buffer.copies)) l.names.items
