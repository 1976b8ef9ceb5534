use Rattle.std.proofs.Common.{◌≡◌, ◌≤◌, ◌+◌, ◌-◌, ◌++◌, length, true, map}
use Rattle.std.specs.Prelude.{take, drop}
use Rattle.link_arena.specs.Lists.{first_id}
use Rattle.mirror_buf.specs.Copies.{is_due}
use Rattle.mirror_buf.specs.Places.{Each}
use Rattle.mirror_buf.proofs.Naming.{name_of}
use Rattle.mirror_buf.proofs.buffer.MirrorBuf.due.Given as goal

abbrev pub invariant-loop-at : goal.invariant-loop-at
invariant-loop-at g l = record {
  grown : length l.fn.into.items ≤ length l.into.items;
  at : l.at ≡ first_id (drop (length l.into.items - length l.fn.into.items) l.self.copies);
  items : l.into.items ≡ l.fn.into.items ++ map name_of (take (length l.into.items - length l.fn.into.items) l.self.copies);
  due : Each (λ c. is_due l.now l.age c ≡ true) (take (length l.into.items - length l.fn.into.items) l.self.copies);
  cost : l.steps + length l.fn.into.items ≡ l.fn.steps + length l.into.items;
  room : length l.into.items - length l.fn.into.items ≤ 64 - length l.fn.into.items;
}

abbrev pub decreases-loop-at : goal.decreases-loop-at
decreases-loop-at g l = 64 - length l.into.items
