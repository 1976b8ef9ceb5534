-- What names stand for in a program.
use Rattle.std.specs.Prelude.{ℕ, List, None}
use Rattle.p4_ast.specs.declared.program.P4Program.{P4Program}
use Rattle.app_data.specs.declared.scope.Slot.{Slot}
use Rattle.app_data.specs.declared.scope.Register.{Register}
use Rattle.app_meaning.specs.Slots.{Scope}
use Rattle.app_meaning.specs.Programs.{parser_scope, control_scope, deparser_scope}

-- what is declared, with these cells and slots
abbrev pub over : Scope → List Register → List Slot → Scope
over sc registers slots = record { types = sc.types; constants = sc.constants; registers = registers; slots = slots; own = None }

-- what names stand for in the three parts of a program
pub record ProgramScopes : Type 0 where
  pub parser : Scope
  pub control : Scope
  pub deparser : Scope

-- the scopes of a program, over so many cells
abbrev pub scopes_of : P4Program → ℕ → ProgramScopes
scopes_of p n = record { parser = parser_scope p; control = control_scope p n; deparser = deparser_scope p }
