use Rattle.std.proofs.Common.{◌≡◌, drop}
use Rattle.p4_tables.specs.Entries.{members, no_members}
use Rattle.p4_tables.proofs.keyset.members.Given as goal

abbrev pub invariant-loop-o : goal.invariant-loop-o
invariant-loop-o l = members l.left (drop l.o-index l.os) l.s l.done ≡ members l.ks l.os l.s no_members
