-- The meaning of programs.
use Rattle.std.specs.Prelude.{ℕ, ◌+◌, ◌%◌, ◌^◌, List, [], ◌∷◌, ◌++◌, map, fold, length, Option, Some, None, if◌then◌else◌, nat_lt, ◌==◌, ◌||◌, codes}
use Rattle.rp_base.specs.declared.node.Packet.{Packet}
use Rattle.rp_base.specs.declared.node.Output.{Output}
use Rattle.p4_ast.specs.declared.name.P4Name.{P4Name}
use Rattle.p4_ast.specs.declared.declaration.P4Declaration.{P4Declaration}
use Rattle.p4_ast.specs.declared.declaration.P4Declaration.TheVariants as declaration
use Rattle.p4_ast.specs.declared.control.P4Param.{P4Param}
use Rattle.p4_ast.specs.declared.control.P4Var.{P4Var}
use Rattle.p4_ast.specs.declared.control.P4Cell.{P4Cell}
use Rattle.p4_ast.specs.declared.control.P4Cell.TheVariants as cell
use Rattle.p4_ast.specs.declared.control.P4Local.{P4Local}
use Rattle.p4_ast.specs.declared.control.P4Local.TheVariants as local
use Rattle.p4_ast.specs.declared.control.P4Action.{P4Action}
use Rattle.p4_ast.specs.declared.statement.P4Stmt.TheOpen as layer
use Rattle.p4_ast.specs.declared.statement.P4Stmt.TheOpen.{P4Stmt-F, P4Block-F, P4If-F}
use Rattle.p4_ast.specs.declared.statement.P4Block.{P4Block, fold-P4Block}
use Rattle.p4_ast.specs.declared.program.P4Program.{P4Program}
use Rattle.rp_app.specs.Application.{Delta, Application, zeros}
use Rattle.app_data.specs.declared.value.Value.{Value}
use Rattle.app_meaning.specs.Values.{cut, holds}
use Rattle.app_data.specs.declared.scope.Slot.{Slot}
use Rattle.app_data.specs.declared.scope.TypeSlots.{TypeSlots}
use Rattle.app_data.specs.declared.scope.Register.{Register}
use Rattle.app_meaning.specs.Slots.{Scope, text, below, named_type, or_none, std_slots, value_slot, type_slots, type_width, typed_slot, header_slots, struct_slots, slot_of, path_value}
use Rattle.app_meaning.specs.Expressions.{eval}
use Rattle.app_meaning.specs.Assigning.{set_slot}
use Rattle.app_data.specs.declared.run.Run.{Run}
use Rattle.app_meaning.specs.Statements.{declare, run_block}
use Rattle.app_meaning.specs.Actions.{control_context}
use Rattle.rp_bits.specs.Bits.{bits_of, bytes_of}
use Rattle.app_meaning.specs.Packets.{Parsing, parse, emitted}

-- ---- what is declared

-- a type more
abbrev pub with_type : Scope → P4Name → List Slot → Scope
with_type sc name slots = record { types = record { name = text name; slots = slots } ∷ sc.types; constants = sc.constants; registers = sc.registers; slots = sc.slots; own = sc.own }

-- a constant more
abbrev pub with_constant : Scope → P4Name → Value → Scope
with_constant sc name v = record { types = sc.types; constants = record { name = text name; value = v } ∷ sc.constants; registers = sc.registers; slots = sc.slots; own = sc.own }

-- a declaration more
abbrev pub with_declaration : Scope → P4Declaration → Scope
with_declaration sc (declaration.Header h) = with_type sc h.name (header_slots sc.types h.fields)
with_declaration sc (declaration.Struct s) = with_type sc s.name (struct_slots sc.types s.fields)
with_declaration sc (declaration.Typedef t) = with_type sc t.name (type_slots sc.types t.type_)
with_declaration sc (declaration.Const c) = with_constant sc c.name (eval c.expr sc [])

-- nothing is declared
abbrev pub nothing : Scope
nothing = record { types = []; constants = []; registers = []; slots = []; own = None }

-- what is declared before the parser
abbrev pub globals : P4Program → Scope
globals p = fold with_declaration nothing p.declarations

-- a local constant
abbrev pub with_local : Scope → P4Local → Scope
with_local sc (local.Const c) = with_constant sc c.name (eval c.expr sc [])
with_local sc l = sc

-- what is declared before the parser, and the control's constants
abbrev pub locals : P4Program → Scope
locals p = fold with_local (globals p) p.ingress.locals

-- ---- cells

-- how many cells a declaration has
abbrev pub register_size : P4Cell → ℕ
register_size (cell.Cell at t name) = 1
register_size (cell.Array at t size name) = size.value

-- the cells of a declaration
abbrev pub register : List TypeSlots → ℕ → P4Cell → Register
register types first (cell.Cell at t name) = record { name = text name; first = first; size = None; width = type_width types t }
register types first (cell.Array at t size name) = record { name = text name; first = first; size = Some size.value; width = type_width types t }

-- the cells that are declared, numbered from `first` on
abbrev pub registers_from : List TypeSlots → ℕ → List P4Local → List Register
registers_from types first [] = []
registers_from types first (local.Cell c ∷ ls) = register types first c ∷ registers_from types (first + register_size c) ls
registers_from types first (l ∷ ls) = registers_from types first ls

-- how many cells the locals have
abbrev pub cells_in : List P4Local → ℕ
cells_in [] = 0
cells_in (local.Cell c ∷ ls) = register_size c + cells_in ls
cells_in (l ∷ ls) = cells_in ls

-- how many cells a flow of a program has
abbrev pub cell_count : P4Program → ℕ
cell_count p = cells_in p.ingress.locals

-- a rewritten program has all cells in one array
abbrev pub registers_of : Option P4Param → List TypeSlots → List P4Local → ℕ → List Register
registers_of None types ls n = registers_from types 0 ls
registers_of (Some rp) types ls n = record { name = codes "rp_cells"; first = 0; size = Some n; width = 64 } ∷ []

-- ---- slots

-- the slot of a variable
abbrev pub variable_slot : List TypeSlots → P4Var → Slot
variable_slot types v = typed_slot types v.type_ v.name

-- the variables of some statements
abbrev pub joined : List (List P4Var) → List P4Var
joined [] = []
joined (vs ∷ more) = vs ++ joined more

-- the variables of a branch that may be missing
abbrev pub in_else : Option (List P4Var) → List P4Var
in_else None = []
in_else (Some vs) = vs

-- the variables of a statement
abbrev pub stmt_variables : P4Stmt-F (List P4Var) (List P4Var) (List P4Var) → List P4Var
stmt_variables (layer.Block vs) = vs
stmt_variables (layer.Var v) = v ∷ []
stmt_variables (layer.Assign a) = []
stmt_variables (layer.Read r) = []
stmt_variables (layer.Write w) = []
stmt_variables (layer.Keystmt k) = []
stmt_variables (layer.Valid v) = []
stmt_variables (layer.Apply a) = []
stmt_variables (layer.Callstmt c) = []
stmt_variables (layer.If vs) = vs

-- the variables of a block
abbrev pub block_variables : P4Block-F (List P4Var) (List P4Var) (List P4Var) → List P4Var
block_variables b = joined b.stmts

-- the variables of both branches
abbrev pub if_variables : P4If-F (List P4Var) (List P4Var) (List P4Var) → List P4Var
if_variables i = i.then ++ in_else i.else_

-- the variables that are declared in a block, also in inner ones
abbrev pub variables_of : P4Block → List P4Var
variables_of = fold-P4Block (List P4Var) (List P4Var) (List P4Var) stmt_variables block_variables if_variables

-- the parameters and variables of an action, with its name in front
abbrev pub action_slots : List TypeSlots → P4Action → List Slot
action_slots types a =
    below (text a.name) (map (λ f. typed_slot types f.type_ f.name) a.params ++ map (variable_slot types) (variables_of a.block))

-- the slots of what a control declares
abbrev pub local_slots : List TypeSlots → List P4Local → List Slot
local_slots types [] = []
local_slots types (local.Var v ∷ ls) = variable_slot types v ∷ local_slots types ls
local_slots types (local.Action a ∷ ls) = action_slots types a ++ local_slots types ls
local_slots types (l ∷ ls) = local_slots types ls

-- the fields of the fourth parameter
abbrev pub rp_fields : List Slot
rp_fields = value_slot (codes "held" ∷ []) 1 ∷ value_slot (codes "dirty" ∷ []) 1 ∷ value_slot (codes "verdict" ∷ []) 1 ∷ []

-- the slots of the fourth parameter
abbrev pub rp_slots : Option P4Param → List Slot
rp_slots None = []
rp_slots (Some rp) = below (text rp.name) rp_fields

-- the slots of what a parser or control gets, under the names of its parameters
abbrev pub parameter_slots : P4Program → List TypeSlots → P4Name → P4Name → P4Name → List Slot
parameter_slots p types headers meta std =
    rp_slots p.ingress.rp
    ++ below (text headers) (or_none (named_type (text p.parser.headers.type_) types))
    ++ below (text meta) (or_none (named_type (text p.parser.meta.type_) types))
    ++ below (text std) std_slots

-- the parser's scope
abbrev pub parser_scope : P4Program → Scope
parser_scope p =
    let g = globals p in
    record {
      types = g.types;
      constants = g.constants;
      registers = [];
      slots = parameter_slots p g.types p.parser.headers.name p.parser.meta.name p.parser.std;
      own = None;
    }

-- the scope of the ingress control, over so many cells
abbrev pub control_scope : P4Program → ℕ → Scope
control_scope p n =
    let g = locals p in
    record {
      types = g.types;
      constants = g.constants;
      registers = registers_of p.ingress.rp g.types p.ingress.locals n;
      slots = parameter_slots p g.types p.ingress.headers.name p.ingress.meta.name p.ingress.std
          ++ local_slots g.types p.ingress.locals
          ++ map (variable_slot g.types) (variables_of p.ingress.block);
      own = None;
    }

-- the deparser's scope: it names headers alone
abbrev pub deparser_scope : P4Program → Scope
deparser_scope p =
    let g = globals p in
    record {
      types = g.types;
      constants = g.constants;
      registers = [];
      slots = parameter_slots p g.types p.deparser.headers.name p.ingress.meta.name p.ingress.std;
      own = None;
    }

-- ---- one packet

-- the control's variables get their first values
abbrev pub run_locals : List P4Local → Scope → List Value → List Value
run_locals [] sc values = values
run_locals (local.Var v ∷ ls) sc values = run_locals ls sc (declare sc v values)
run_locals (l ∷ ls) sc values = run_locals ls sc values

-- a field of the parameter of type `std_t`
abbrev pub std_path : P4Name → List ℕ → List (List ℕ)
std_path std field = text std ∷ field ∷ []

-- `held` is set where a program is rewritten
abbrev pub with_held : Option P4Param → Scope → ℕ → List Value → List Value
with_held None sc held values = values
with_held (Some rp) sc held values = set_slot values (slot_of sc (text rp.name ∷ codes "held" ∷ [])) (cut 1 held)

-- all values are 0 at first, but for the port and `held`
abbrev pub first_values : P4Program → Scope → ℕ → Packet → List Value
first_values p sc held packet =
    with_held p.ingress.rp sc held
    (set_slot (map (λ s. cut s.width 0) sc.slots) (slot_of sc (std_path p.ingress.std (codes "in_port"))) (cut 16 packet.port))

-- what a run ends with: its values, the cells that it wrote, its key, and its output
pub record Outcome : Type 0 where
  pub values : List Value
  pub delta : Delta
  pub key : Option (List ℕ)
  pub output : Option Output

-- no output where `drop` is 1, or past 1,500 bytes
abbrev pub output_of : P4Program → Scope → Packet → List ℕ → List Value → Option Output
output_of p sc packet bytes values =
    if holds (path_value sc values (std_path p.ingress.std (codes "drop"))) || nat_lt 1500 (length bytes)
    then None
    else Some (record {
      mark = packet.mark;
      port = (path_value sc values (std_path p.ingress.std (codes "out_port"))).number % 2 ^ 16;
      bytes = bytes;
    })

-- the ingress control's run of what was parsed
abbrev pub run_control : P4Program → Scope → List ℕ → Parsing → Run
run_control p sc cells parsed =
    run_block p.ingress.block (control_context sc p.ingress.locals)
    (record { values = run_locals p.ingress.locals sc parsed.values; cells = cells; delta = []; key = None })

-- what a packet ends with, behind the deparser
abbrev pub deparsed : P4Program → Scope → Packet → List ℕ → Run → Outcome
deparsed p sc packet left run =
    record {
      values = run.values;
      delta = run.delta;
      key = run.key;
      output = output_of p sc packet (bytes_of (emitted (deparser_scope p) p.deparser.emits run.values ++ left)) run.values;
    }

-- what follows the parser; a rejected packet has no key and no output
abbrev pub after_parser : P4Program → Scope → List ℕ → Packet → List Value → Option Parsing → Outcome
after_parser p sc cells packet values None = record { values = values; delta = []; key = None; output = None }
after_parser p sc cells packet values (Some parsed) = deparsed p sc packet parsed.left (run_control p sc cells parsed)

-- what a packet ends with, in a scope
abbrev pub outcome_in : P4Program → Scope → ℕ → List ℕ → Packet → Outcome
outcome_in p sc held cells packet =
    let values = first_values p sc held packet in
    after_parser p sc cells packet values
    (parse (parser_scope p) p.parser.states (record { values = values; left = bits_of packet.bytes }))

-- a packet's run of a program, over all cells of its flow
abbrev pub outcome : P4Program → ℕ → List ℕ → Packet → Outcome
outcome p held cells packet = outcome_in p (control_scope p (length cells)) held cells packet

-- the cells that a packet writes, and its output, if there is one
abbrev pub plain : P4Program → List ℕ → Packet → Delta × Option Output
plain p cells packet = let o = outcome p 0 cells packet in (o.delta, o.output)

-- the key of a packet's flow, if it has one
abbrev pub key : P4Program → Packet → Option (List ℕ)
key p packet = (outcome p 0 (zeros (cell_count p)) packet).key

-- a run over a list of another length than a flow's is none: it does nothing
abbrev pub sized : ℕ → (List ℕ → Packet → Delta × Option Output) → List ℕ → Packet → Delta × Option Output
sized n run cells packet = if length cells == n then run cells packet else ([], None)

-- a program as an application
abbrev pub application : P4Program → Application
application p = record { cell_count = cell_count p; key_of = key p; plain = sized (cell_count p) (plain p) }
