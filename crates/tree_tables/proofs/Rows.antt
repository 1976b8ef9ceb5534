-- Members of rows, and the first row that matches.
use Rattle.std.proofs.Common.{◌≡◌, ℕ, zero, suc, List, [], ◌∷◌, map, Option, Some, None, refl, if◌then◌else◌, true, false, Bool}
use Rattle.std.specs.Prelude.{slice_get, option_map}
use Rattle.std.proofs.lemmas.Option.{slice_get-map}
use Rattle.p4_ast.specs.declared.parser.P4One.{P4One}
use Rattle.app_data.specs.declared.value.Value.{Value}
use Rattle.app_data.specs.declared.value.Match.{Match}
use Rattle.app_meaning.specs.Slots.{Name}
use Rattle.app_meaning.specs.Matches.{better, winner}
use Rattle.app_meaning.specs.Packets.{row_name}

pub first_case : (r : List Match × Name) (o : Option (List Match × Name)) → row_name (better None r o) ≡ Some r.1
first_case r None = refl
first_case r (Some s) = refl

pub get_map : (f : P4One → Match) (os : List P4One) (i : ℕ) → slice_get (map f os) i ≡ option_map f (slice_get os i)
get_map f os i = slice_get-map f os i
