use Rattle.std.proofs.Common.{◌≡◌, ◌++◌, drop}
use Rattle.app_meaning.specs.Slots.{struct_slots}
use Rattle.tree_scope.proofs.types.struct_slots.Given as goal

abbrev pub invariant-loop-f : goal.invariant-loop-f
invariant-loop-f l = l.made ++ struct_slots l.types (drop l.f-index l.fields) ≡ struct_slots l.types l.fields
