-- What declarations alone stand for.
use Rattle.std.specs.Prelude.{List, [], None}
use Rattle.app_data.specs.declared.scope.TypeSlots.{TypeSlots}
use Rattle.app_data.specs.declared.scope.Constant.{Constant}
use Rattle.app_meaning.specs.Slots.{Scope}

-- the scope of these types and constants, without cells and slots
abbrev pub declaring : List TypeSlots → List Constant → Scope
declaring types constants = record { types = types; constants = constants; registers = []; slots = []; own = None }
