-- Programs without their places.
use Rattle.std.specs.Prelude.{◌≡◌, map, option_map}
use Rattle.p4_ast.specs.declared.declaration.P4Header.{P4Header}
use Rattle.p4_ast.specs.declared.declaration.P4Struct.{P4Struct}
use Rattle.p4_ast.specs.declared.declaration.P4Typedef.{P4Typedef}
use Rattle.p4_ast.specs.declared.declaration.P4Const.{P4Const}
use Rattle.p4_ast.specs.declared.declaration.P4Declaration.{P4Declaration}
use Rattle.p4_ast.specs.declared.declaration.P4Declaration.TheVariants as declaration
use Rattle.p4_ast.specs.declared.parser.P4Parser.{P4Parser}
use Rattle.p4_ast.specs.declared.parser.P4State.{P4State}
use Rattle.p4_ast.specs.declared.parser.P4Step.{P4Step}
use Rattle.p4_ast.specs.declared.parser.P4Step.TheVariants as step
use Rattle.p4_ast.specs.declared.parser.P4Extract.{P4Extract}
use Rattle.p4_ast.specs.declared.parser.P4Target.{P4Target}
use Rattle.p4_ast.specs.declared.parser.P4Target.TheVariants as target
use Rattle.p4_ast.specs.declared.parser.P4Case.{P4Case}
use Rattle.p4_ast.specs.declared.parser.P4Keyset.{P4Keyset}
use Rattle.p4_ast.specs.declared.parser.P4Keyset.TheVariants as keyset
use Rattle.p4_ast.specs.declared.parser.P4One.{P4One}
use Rattle.p4_ast.specs.declared.parser.P4One.TheVariants as one
use Rattle.p4_ast.specs.declared.control.P4Ingress.{P4Ingress}
use Rattle.p4_ast.specs.declared.control.P4Local.{P4Local}
use Rattle.p4_ast.specs.declared.control.P4Local.TheVariants as local
use Rattle.p4_ast.specs.declared.control.P4Cell.{P4Cell}
use Rattle.p4_ast.specs.declared.control.P4Cell.TheVariants as cell
use Rattle.p4_ast.specs.declared.control.P4Action.{P4Action}
use Rattle.p4_ast.specs.declared.table.P4Table.{P4Table}
use Rattle.p4_ast.specs.declared.table.P4Keys.{P4Keys}
use Rattle.p4_ast.specs.declared.table.P4Key.{P4Key}
use Rattle.p4_ast.specs.declared.table.P4Acts.{P4Acts}
use Rattle.p4_ast.specs.declared.table.P4Default.{P4Default}
use Rattle.p4_ast.specs.declared.table.P4Entries.{P4Entries}
use Rattle.p4_ast.specs.declared.table.P4Entry.{P4Entry}
use Rattle.p4_ast.specs.declared.table.P4Size.{P4Size}
use Rattle.p4_ast.specs.declared.table.P4Call.{P4Call}
use Rattle.p4_ast.specs.declared.program.P4Program.{P4Program}
use Rattle.p4_ast.specs.declared.program.P4Deparser.{P4Deparser}
use Rattle.p4_ast.specs.declared.program.P4Emit.{P4Emit}
use Rattle.p4_ast.specs.declared.program.P4Package.{P4Package}
use Rattle.p4_ast.specs.Bare.{bare_name, bare_number, bare_path, bare_type, bare_field, bare_param, bare_expr}
use Rattle.p4_ast.specs.BareStatements.{bare_var, bare_assign, bare_block}

abbrev pub bare_header : P4Header → P4Header
bare_header h = record { at = 0; name = bare_name h.name; fields = map bare_field h.fields }

abbrev pub bare_struct : P4Struct → P4Struct
bare_struct s = record { at = 0; name = bare_name s.name; fields = map bare_field s.fields }

abbrev pub bare_typedef : P4Typedef → P4Typedef
bare_typedef t = record { at = 0; type_ = bare_type t.type_; name = bare_name t.name }

abbrev pub bare_const : P4Const → P4Const
bare_const c = record { at = 0; type_ = bare_type c.type_; name = bare_name c.name; expr = bare_expr c.expr }

abbrev pub bare_declaration : P4Declaration → P4Declaration
bare_declaration (declaration.Header h) = declaration.Header (bare_header h)
bare_declaration (declaration.Struct s) = declaration.Struct (bare_struct s)
bare_declaration (declaration.Typedef t) = declaration.Typedef (bare_typedef t)
bare_declaration (declaration.Const c) = declaration.Const (bare_const c)

abbrev pub bare_one : P4One → P4One
bare_one (one.Any at) = one.Any 0
bare_one (one.Expr at expr mask) = one.Expr 0 (bare_expr expr) (option_map bare_expr mask)

abbrev pub bare_keyset : P4Keyset → P4Keyset
bare_keyset (keyset.Default at) = keyset.Default 0
bare_keyset (keyset.One o) = keyset.One (bare_one o)
bare_keyset (keyset.Tuple at ones) = keyset.Tuple 0 (map bare_one ones)

abbrev pub bare_case : P4Case → P4Case
bare_case c = record { at = 0; keyset = bare_keyset c.keyset; name = bare_name c.name }

abbrev pub bare_target : P4Target → P4Target
bare_target (target.Name at name) = target.Name 0 (bare_name name)
bare_target (target.Select at exprs cases) = target.Select 0 (map bare_expr exprs) (map bare_case cases)

abbrev pub bare_extract : P4Extract → P4Extract
bare_extract e = record { at = 0; name = bare_name e.name; path = bare_path e.path }

abbrev pub bare_step : P4Step → P4Step
bare_step (step.Extract e) = step.Extract (bare_extract e)
bare_step (step.Assign a) = step.Assign (bare_assign a)

abbrev pub bare_state : P4State → P4State
bare_state s = record { at = 0; name = bare_name s.name; steps = map bare_step s.steps; target = bare_target s.target }

abbrev pub bare_parser : P4Parser → P4Parser
bare_parser p = record {
  at = 0;
  name = bare_name p.name;
  packet = bare_name p.packet;
  headers = bare_param p.headers;
  meta = bare_param p.meta;
  std = bare_name p.std;
  states = map bare_state p.states;
}

abbrev pub bare_call : P4Call → P4Call
bare_call c = record { at = 0; name = bare_name c.name; args = map bare_expr c.args }

abbrev pub bare_key : P4Key → P4Key
bare_key k = record { at = 0; expr = bare_expr k.expr; matching = k.matching }

abbrev pub bare_keys : P4Keys → P4Keys
bare_keys k = record { at = 0; keys = map bare_key k.keys }

abbrev pub bare_acts : P4Acts → P4Acts
bare_acts a = record { at = 0; names = map bare_name a.names }

abbrev pub bare_default : P4Default → P4Default
bare_default d = record { at = 0; const_ = d.const_; call = bare_call d.call }

abbrev pub bare_entry : P4Entry → P4Entry
bare_entry e = record { at = 0; keyset = bare_keyset e.keyset; call = bare_call e.call }

abbrev pub bare_entries : P4Entries → P4Entries
bare_entries e = record { at = 0; const_ = e.const_; entries = map bare_entry e.entries }

abbrev pub bare_size : P4Size → P4Size
bare_size s = record { at = 0; number = bare_number s.number }

abbrev pub bare_table : P4Table → P4Table
bare_table t = record {
  at = 0;
  name = bare_name t.name;
  keys = bare_keys t.keys;
  acts = bare_acts t.acts;
  default = option_map bare_default t.default;
  entries = option_map bare_entries t.entries;
  size = option_map bare_size t.size;
}

abbrev pub bare_action : P4Action → P4Action
bare_action a = record { at = 0; name = bare_name a.name; params = map bare_field a.params; block = bare_block a.block }

abbrev pub bare_cell : P4Cell → P4Cell
bare_cell (cell.Cell at type_ name) = cell.Cell 0 (bare_type type_) (bare_name name)
bare_cell (cell.Array at type_ size name) = cell.Array 0 (bare_type type_) (bare_number size) (bare_name name)

abbrev pub bare_local : P4Local → P4Local
bare_local (local.Const c) = local.Const (bare_const c)
bare_local (local.Var v) = local.Var (bare_var v)
bare_local (local.Cell c) = local.Cell (bare_cell c)
bare_local (local.Action a) = local.Action (bare_action a)
bare_local (local.Table t) = local.Table (bare_table t)

abbrev pub bare_ingress : P4Ingress → P4Ingress
bare_ingress c = record {
  at = 0;
  name = bare_name c.name;
  headers = bare_param c.headers;
  meta = bare_param c.meta;
  std = bare_name c.std;
  rp = option_map bare_param c.rp;
  locals = map bare_local c.locals;
  block = bare_block c.block;
}

abbrev pub bare_emit : P4Emit → P4Emit
bare_emit e = record { at = 0; name = bare_name e.name; path = bare_path e.path }

abbrev pub bare_deparser : P4Deparser → P4Deparser
bare_deparser d = record {
  at = 0;
  name = bare_name d.name;
  packet = bare_name d.packet;
  headers = bare_param d.headers;
  emits = map bare_emit d.emits;
}

abbrev pub bare_package : P4Package → P4Package
bare_package p = record { at = 0; parser = bare_name p.parser; ingress = bare_name p.ingress; deparser = bare_name p.deparser }

-- the tree with each place 0
abbrev pub bare_program : P4Program → P4Program
bare_program p = record {
  at = 0;
  declarations = map bare_declaration p.declarations;
  parser = bare_parser p.parser;
  ingress = bare_ingress p.ingress;
  deparser = bare_deparser p.deparser;
  «package» = bare_package p.package;
}

-- the same tree, wherever its nodes stand
abbrev pub SameTree : P4Program → P4Program → Type 0
SameTree s t = bare_program s ≡ bare_program t
