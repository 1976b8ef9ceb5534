use Rattle.std.proofs.Common.{◌≡◌, ◌++◌, map, take}
use Rattle.app_meaning.specs.Slots.{typed_slot}
use Rattle.tree_scope.proofs.types.push_fields.Given as goal

abbrev pub invariant-loop-f : goal.invariant-loop-f
invariant-loop-f l = l.into ≡ l.fn.into ++ map (λ f. typed_slot l.types f.type_ f.name) (take l.f-index l.fields)
