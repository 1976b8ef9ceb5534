-- Whole programs: their first fault, and their trees with the width of each literal.
use Rattle.std.specs.Prelude.{ℕ, ◌+◌, min, Bool, true, false, ◌||◌, ◌==◌, nat_lt, List, [], ◌∷◌, ◌++◌, length, take, Option, Some, None}
use Rattle.std.specs.Option.{option_map_or}
use Rattle.rp_base.specs.declared.refused.Refused.{Refused}
use Rattle.rp_base.specs.declared.refused.Why.TheVariants as why
use Rattle.p4_ast.specs.declared.name.P4Name.{P4Name}
use Rattle.p4_ast.specs.declared.declaration.P4Field.{P4Field}
use Rattle.p4_ast.specs.declared.declaration.P4Declaration.{P4Declaration}
use Rattle.p4_ast.specs.declared.declaration.P4Declaration.TheVariants as declaration
use Rattle.p4_ast.specs.declared.control.P4Ingress.{P4Ingress}
use Rattle.p4_ast.specs.declared.control.P4Local.{P4Local}
use Rattle.p4_ast.specs.declared.control.P4Local.TheVariants as local
use Rattle.p4_ast.specs.declared.control.P4Cell.{P4Cell}
use Rattle.p4_ast.specs.declared.control.P4Cell.TheVariants as cell
use Rattle.p4_ast.specs.declared.control.P4Action.{P4Action}
use Rattle.p4_ast.specs.declared.declaration.P4Type.{P4Type}
use Rattle.p4_ast.specs.declared.statement.P4Block.{P4Block}
use Rattle.p4_ast.specs.declared.program.P4Program.{P4Program}
use Rattle.p4_ast.specs.declared.program.P4Deparser.{P4Deparser}
use Rattle.p4_ast.specs.declared.program.P4Emit.{P4Emit}
use Rattle.p4_ast.specs.declared.program.P4Package.{P4Package}
use Rattle.p4_ast.specs.declared.parser.P4State.{P4State}
use Rattle.p4_scope.specs.declared.kind.Kind.{Kind}
use Rattle.p4_scope.specs.declared.kind.Kind.TheVariants as kind
use Rattle.p4_scope.specs.declared.thing.Thing.{Thing}
use Rattle.p4_scope.specs.declared.thing.Thing.TheVariants as thing
use Rattle.p4_scope.specs.declared.thing.Site.TheVariants as site
use Rattle.p4_scope.specs.Faults.{Fault, first_of, fault, fault_if, first_in}
use Rattle.p4_scope.specs.Scopes.{Scope, outermost, note, find, declare, leave, must_be, each}
use Rattle.p4_scope.specs.Types.{type_kind, plain_kind, bits, header, struct_, typedef}
use Rattle.p4_scope.specs.Paths.{header_path}
use Rattle.p4_scope.specs.FlowKeys.{closed}
use Rattle.p4_stmts.specs.Statements.{const_, var, wrapped, block}
use Rattle.p4_tables.specs.Tables.{table}
use Rattle.p4_scope.specs.Params.{struct_kind, same_param}
use Rattle.p4_check.specs.declared.part.Parts.{Parts}
use Rattle.p4_check.specs.Parsers.{is_packet, parser}

-- ---- declarations

-- what stands before the parser
abbrev pub declaration_ : P4Declaration → Scope → Scope × P4Declaration
declaration_ (declaration.Header h) s = (header h s, declaration.Header h)
declaration_ (declaration.Struct t) s = (struct_ t s, declaration.Struct t)
declaration_ (declaration.Typedef t) s = (typedef t s, declaration.Typedef t)
declaration_ (declaration.Const c) s = wrapped declaration.Const (const_ c s)

-- ---- cells

-- bits of at most 64
abbrev pub cell_width : ℕ → Kind → Fault
cell_width at (kind.Bits w) = fault_if (nat_lt 64 w) why.Width at
cell_width at k = None

-- so many cells, counted up to 257
abbrev pub with_cells : ℕ → Scope → Scope
with_cells n s = record s { cells = min 257 (s.cells + n) }

-- too many cells, or none, at this place
abbrev pub cells_fault : ℕ → ℕ → Scope → Fault
cells_fault at n s = fault_if ((n == 0) || nat_lt 256 s.cells) why.Cells at

-- so many cells of this kind, declared at this place
abbrev pub cell_counted : ℕ → ℕ → Fault × Kind → P4Name → Thing → Scope → Scope
cell_counted at n k x t s = declare x t (note (first_of k.0 (first_of (cell_width at k.1) (cells_fault at n s))) s)

-- the kind of a cell, which must be bits
abbrev pub cell_kind : ℕ → P4Type → Scope → Fault × Kind
cell_kind at t s =
    let k : Fault × Kind = type_kind t s in
    bits at k.0 k.1

-- a cell or an array, behind which its name is visible
abbrev pub cell_ : P4Cell → Scope → Scope
cell_ (cell.Cell at t x) s =
    let k : Fault × Kind = cell_kind at t s in
    cell_counted at 1 k x (thing.Cell k.1) (with_cells 1 s)
cell_ (cell.Array at t n x) s =
    let k : Fault × Kind = cell_kind at t s in
    cell_counted at n.value k x (thing.Array k.1) (with_cells n.value s)

-- ---- actions

-- a parameter of an action: the scope behind it, and its kind
abbrev pub action_param : P4Field → Scope → Scope × Kind
action_param f s =
    let k : Fault × Kind = plain_kind f.at f.type_ s in
    (declare f.name (thing.Param k.1) (note k.0 s), k.1)

-- behind an action's block: but for the first n its names are forgotten, and it joins the others
abbrev pub action_left : ℕ → List Kind → Scope → Scope
action_left n ks s = record s {
  names = take n s.names;
  actions = s.actions ++ record { params = ks; uses = s.uses; reached = false } ∷ [];
  site = site.Other;
}

-- an action behind its parameters, whose scope has n names
abbrev pub action_body : P4Action → ℕ → Scope × List Kind → Scope × P4Action
action_body a n ks =
    let r : Scope × P4Block = block a.block (record ks.0 { site = site.Action; uses = None }) in
    (action_left n ks.1 r.0, record a { block = r.1 })

-- an action whose name is declared
abbrev pub action_in : P4Action → Scope → Scope × P4Action
action_in a s = action_body a (length s.names) (each action_param a.params s [])

-- an action, in which its name is visible
abbrev pub action : P4Action → Scope → Scope × P4Action
action a s = action_in a (declare a.name (thing.Action (length s.actions)) s)

-- ---- the ingress control

-- what is declared in the ingress control
abbrev pub local_ : P4Local → Scope → Scope × P4Local
local_ (local.Const c) s = wrapped local.Const (const_ c s)
local_ (local.Var v) s = wrapped local.Var (var v s)
local_ (local.Cell c) s = (cell_ c s, local.Cell c)
local_ (local.Action a) s = wrapped local.Action (action a s)
local_ (local.Table t) s = wrapped local.Table (table t s)

-- the parameters: a fourth one is refused
abbrev pub inputs : Kind → Kind → P4Ingress → Scope → Scope
inputs h m c s = note (option_map_or (λ p. fault why.Kind p.at) c.rp None)
    (declare c.std (thing.Var kind.Std) (same_param m c.meta (same_param h c.headers s)))

-- an ingress control behind its declarations, whose scope has n names: the scope behind it, its declarations and its block
unfoldable pub ingress_body : P4Ingress → ℕ → Scope × List P4Local → Scope × List P4Local × P4Block
ingress_body c n ls =
    let r : Scope × P4Block = block c.block (record ls.0 { site = site.Tail }) in
    (closed (record r.0 { names = take n r.0.names; site = site.Other }), ls.1, r.1)

-- an ingress control whose name is declared
unfoldable pub ingress_in : Kind → Kind → P4Ingress → Scope → Scope × List P4Local × P4Block
ingress_in h m c s = ingress_body c (length s.names) (each local_ c.locals (inputs h m c s) [])

-- the ingress control, where these are the parser's structures of headers and of metadata
unfoldable pub ingress : Kind → Kind → P4Ingress → Scope → Scope × List P4Local × P4Block
ingress h m c s = ingress_in h m c (declare c.name thing.Ingress s)

-- ---- the deparser

-- a header that is emitted
abbrev pub emit : Scope → P4Emit → Fault
emit s e =
    let t : Option Thing = find e.name.text s in
    first_of (must_be (is_packet t) e.name t) (header_path e.path s)

-- a deparser whose name is declared
abbrev pub deparser_in : Kind → P4Deparser → Scope → Scope
deparser_in h d s =
    let t : Scope = same_param h d.headers (declare d.packet thing.Packet s) in
    leave s (note (first_in (emit t) d.emits None) t)

-- the deparser, where this is the parser's structure of headers
unfoldable pub deparser : Kind → P4Deparser → Scope → Scope
deparser h d s = deparser_in h d (declare d.name thing.Deparser s)

-- ---- the program

-- whether it is the parser
abbrev pub is_parser : Option Thing → Bool
is_parser (Some thing.Parser) = true
is_parser t = false

-- whether it is the ingress control
abbrev pub is_ingress : Option Thing → Bool
is_ingress (Some thing.Ingress) = true
is_ingress t = false

-- whether it is the deparser
abbrev pub is_deparser : Option Thing → Bool
is_deparser (Some thing.Deparser) = true
is_deparser t = false

-- the three names of the package
abbrev pub package_fault : P4Package → Scope → Fault
package_fault k s =
    let p : Option Thing = find k.parser.text s in
    let i : Option Thing = find k.ingress.text s in
    let d : Option Thing = find k.deparser.text s in
    first_of (must_be (is_parser p) k.parser p) (first_of (must_be (is_ingress i) k.ingress i) (must_be (is_deparser d) k.deparser d))

-- the controls, where these are the parser's structures, and the package: the scope behind them, the declarations and the block
unfoldable pub controls : P4Program → Kind → Kind → Scope → Scope × List P4Local × P4Block
controls p h m s =
    let c : Scope × List P4Local × P4Block = ingress h m p.ingress s in
    let t : Scope = deparser h p.deparser c.0 in
    (note (package_fault p.«package» t) t, c.1, c.2)

-- what is checked of a program behind these declarations
unfoldable pub behind_declarations : P4Program → Scope × List P4Declaration → Scope × Parts
behind_declarations p ds =
    let h : Kind = (struct_kind p.parser.headers.type_ ds.0).1 in
    let m : Kind = (struct_kind p.parser.meta.type_ ds.0).1 in
    let q : Scope × List P4State = parser p.parser ds.0 in
    let c : Scope × List P4Local × P4Block = controls p h m q.0 in
    (c.0, record { declarations = ds.1; states = q.1; locals = c.1; block = c.2 })

-- what is checked of a program: the scope behind it, and its parts with the width of each literal
unfoldable pub program : P4Program → Scope × Parts
program p = behind_declarations p (each declaration_ p.declarations outermost [])

-- the program with these parts
abbrev pub with_parts : P4Program → Parts → P4Program
with_parts p r = record p {
  declarations = r.declarations;
  parser = record (p.parser) { states = r.states };
  ingress = record (p.ingress) { locals = r.locals; block = r.block };
}

-- the least place at which a program is wrong, and its first cause there
abbrev pub bad_tree : P4Program → Option Refused
bad_tree p = (program p).0.fault

-- the program with the width of each literal
abbrev pub checked : P4Program → P4Program
checked p = with_parts p (program p).1

-- how many cells a program has, 257 for more than 256
abbrev pub cells_of : P4Program → ℕ
cells_of p = min 257 (program p).0.cells
