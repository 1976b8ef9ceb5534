-- The tokens of a program, and its canonical text.
use Rattle.std.specs.Prelude.{ℕ, List, [], ◌∷◌, ◌++◌, codes}
use Rattle.p4_lex.specs.declared.token.Sign.TheVariants as sign
use Rattle.p4_lex.specs.declared.token.Lexeme.{Lexeme}
use Rattle.p4_lex.specs.declared.token.Lexeme.TheVariants as lexeme
use Rattle.p4_ast.specs.declared.name.P4Name.{P4Name}
use Rattle.p4_ast.specs.declared.expression.P4Expr.{P4Expr}
use Rattle.p4_ast.specs.declared.declaration.P4Header.{P4Header}
use Rattle.p4_ast.specs.declared.declaration.P4Struct.{P4Struct}
use Rattle.p4_ast.specs.declared.declaration.P4Typedef.{P4Typedef}
use Rattle.p4_ast.specs.declared.declaration.P4Const.{P4Const}
use Rattle.p4_ast.specs.declared.declaration.P4Declaration.{P4Declaration}
use Rattle.p4_ast.specs.declared.declaration.P4Declaration.TheVariants as declaration
use Rattle.p4_ast.specs.declared.parser.P4Parser.{P4Parser}
use Rattle.p4_ast.specs.declared.parser.P4State.{P4State}
use Rattle.p4_ast.specs.declared.parser.P4Step.{P4Step}
use Rattle.p4_ast.specs.declared.parser.P4Step.TheVariants as step
use Rattle.p4_ast.specs.declared.parser.P4Extract.{P4Extract}
use Rattle.p4_ast.specs.declared.parser.P4Target.{P4Target}
use Rattle.p4_ast.specs.declared.parser.P4Target.TheVariants as target
use Rattle.p4_ast.specs.declared.parser.P4Case.{P4Case}
use Rattle.p4_ast.specs.declared.control.P4Ingress.{P4Ingress}
use Rattle.p4_ast.specs.declared.control.P4Local.{P4Local}
use Rattle.p4_ast.specs.declared.control.P4Local.TheVariants as local
use Rattle.p4_ast.specs.declared.control.P4Cell.{P4Cell}
use Rattle.p4_ast.specs.declared.control.P4Cell.TheVariants as cell
use Rattle.p4_ast.specs.declared.control.P4Action.{P4Action}
use Rattle.p4_ast.specs.declared.control.P4Param.{P4Param}
use Rattle.p4_ast.specs.declared.program.P4Program.{P4Program}
use Rattle.p4_ast.specs.declared.program.P4Deparser.{P4Deparser}
use Rattle.p4_ast.specs.declared.program.P4Emit.{P4Emit}
use Rattle.p4_ast.specs.declared.program.P4Package.{P4Package}
use Rattle.p4_print.specs.Text.{text}
use Rattle.p4_print.specs.Shared.{◌+>◌, the, named, number, all, separated, maybe, type_tokens, path_tokens, field_tokens, argument_tokens, param_tokens}
use Rattle.p4_print.specs.Expressions.{expr_tokens}
use Rattle.p4_print.specs.Statements.{var_tokens, assign_tokens, block_tokens}
use Rattle.p4_print.specs.Tables.{keyset_tokens, table_tokens}

unfoldable pub header_tokens : P4Header → List Lexeme
header_tokens h = the sign.Header ∷ named h.name ∷ the sign.OpenBrace ∷ all field_tokens h.fields +> the sign.CloseBrace ∷ []

unfoldable pub struct_tokens : P4Struct → List Lexeme
struct_tokens s = the sign.Struct ∷ named s.name ∷ the sign.OpenBrace ∷ all field_tokens s.fields +> the sign.CloseBrace ∷ []

unfoldable pub typedef_tokens : P4Typedef → List Lexeme
typedef_tokens t = the sign.Typedef ∷ type_tokens t.type_ +> named t.name ∷ the sign.Semicolon ∷ []

unfoldable pub const_tokens : P4Const → List Lexeme
const_tokens c = the sign.Const ∷ type_tokens c.type_ +> named c.name ∷ the sign.Assign ∷ expr_tokens c.expr +> the sign.Semicolon ∷ []

unfoldable pub declaration_tokens : P4Declaration → List Lexeme
declaration_tokens (declaration.Header h) = header_tokens h
declaration_tokens (declaration.Struct s) = struct_tokens s
declaration_tokens (declaration.Typedef t) = typedef_tokens t
declaration_tokens (declaration.Const c) = const_tokens c

unfoldable pub case_tokens : P4Case → List Lexeme
case_tokens c = keyset_tokens c.keyset +> the sign.Colon ∷ named c.name ∷ the sign.Semicolon ∷ []

-- the choice of the state that follows
unfoldable pub select_tokens : List P4Expr → List P4Case → List Lexeme
select_tokens exprs cases =
    the sign.Select ∷ the sign.Open ∷ separated sign.Comma expr_tokens exprs +> the sign.Close ∷ the sign.OpenBrace ∷ all case_tokens cases
    +> the sign.CloseBrace ∷ []

unfoldable pub target_tokens : P4Target → List Lexeme
target_tokens (target.Name at name) = named name ∷ the sign.Semicolon ∷ []
target_tokens (target.Select at exprs cases) = select_tokens exprs cases

unfoldable pub extract_tokens : P4Extract → List Lexeme
extract_tokens e =
    named e.name ∷ the sign.Dot ∷ lexeme.Name (codes "extract") ∷ the sign.Open ∷ path_tokens e.path +> the sign.Close ∷ the sign.Semicolon ∷ []

unfoldable pub step_tokens : P4Step → List Lexeme
step_tokens (step.Extract e) = extract_tokens e
step_tokens (step.Assign a) = assign_tokens a

unfoldable pub state_tokens : P4State → List Lexeme
state_tokens s =
    the sign.State ∷ named s.name ∷ the sign.OpenBrace ∷ all step_tokens s.steps +> the sign.Transition ∷ target_tokens s.target
    +> the sign.CloseBrace ∷ []

-- the parameters of the parser
unfoldable pub parameters_tokens : P4Parser → List Lexeme
parameters_tokens p =
    the sign.Open ∷ the sign.PacketIn ∷ named p.packet ∷ the sign.Comma ∷ the sign.Out ∷ param_tokens p.headers
    +> the sign.Comma ∷ the sign.Inout ∷ param_tokens p.meta +> the sign.Comma ∷ the sign.Inout ∷ the sign.StdT ∷ named p.std ∷ the sign.Close ∷ []

unfoldable pub parser_tokens : P4Parser → List Lexeme
parser_tokens p =
    the sign.Parser ∷ named p.name ∷ parameters_tokens p +> the sign.OpenBrace ∷ all state_tokens p.states +> the sign.CloseBrace ∷ []

unfoldable pub cell_tokens : P4Cell → List Lexeme
cell_tokens (cell.Cell at type_ name) =
    the sign.FlowCell ∷ the sign.Less ∷ type_tokens type_ +> the sign.More ∷ the sign.Open ∷ the sign.Close ∷ named name ∷ the sign.Semicolon ∷ []
cell_tokens (cell.Array at type_ size name) =
    the sign.FlowArray ∷ the sign.Less ∷ type_tokens type_ +> the sign.More ∷ the sign.Open ∷ number size ∷ the sign.Close ∷ named name
    ∷ the sign.Semicolon ∷ []

unfoldable pub action_tokens : P4Action → List Lexeme
action_tokens a =
    the sign.Action ∷ named a.name ∷ the sign.Open ∷ separated sign.Comma argument_tokens a.params +> the sign.Close ∷ block_tokens a.block

unfoldable pub local_tokens : P4Local → List Lexeme
local_tokens (local.Const c) = const_tokens c
local_tokens (local.Var v) = var_tokens v
local_tokens (local.Cell c) = cell_tokens c
local_tokens (local.Action a) = action_tokens a
local_tokens (local.Table t) = table_tokens t

-- the parameter that rewriting adds
abbrev pub rp_tokens : P4Param → List Lexeme
rp_tokens p = the sign.Comma ∷ the sign.Inout ∷ param_tokens p

-- the parameters of the ingress control
unfoldable pub inputs_tokens : P4Ingress → List Lexeme
inputs_tokens c =
    the sign.Open ∷ the sign.Inout ∷ param_tokens c.headers +> the sign.Comma ∷ the sign.Inout ∷ param_tokens c.meta
    +> the sign.Comma ∷ the sign.Inout ∷ the sign.StdT ∷ named c.std ∷ maybe rp_tokens c.rp +> the sign.Close ∷ []

unfoldable pub ingress_tokens : P4Ingress → List Lexeme
ingress_tokens c =
    the sign.Control ∷ named c.name ∷ inputs_tokens c +> the sign.OpenBrace ∷ all local_tokens c.locals +> the sign.Apply ∷ block_tokens c.block
    +> the sign.CloseBrace ∷ []

unfoldable pub emit_tokens : P4Emit → List Lexeme
emit_tokens e =
    named e.name ∷ the sign.Dot ∷ lexeme.Name (codes "emit") ∷ the sign.Open ∷ path_tokens e.path +> the sign.Close ∷ the sign.Semicolon ∷ []

unfoldable pub deparser_tokens : P4Deparser → List Lexeme
deparser_tokens d =
    the sign.Control ∷ named d.name ∷ the sign.Open ∷ the sign.PacketOut ∷ named d.packet ∷ the sign.Comma ∷ the sign.In ∷ param_tokens d.headers
    +> the sign.Close ∷ the sign.OpenBrace ∷ the sign.Apply ∷ the sign.OpenBrace ∷ all emit_tokens d.emits
    +> the sign.CloseBrace ∷ the sign.CloseBrace ∷ []

-- a part of the package: a name with empty parentheses
abbrev pub part_tokens : P4Name → List Lexeme
part_tokens n = named n ∷ the sign.Open ∷ the sign.Close ∷ []

unfoldable pub package_tokens : P4Package → List Lexeme
package_tokens p =
    the sign.RpSwitch ∷ the sign.Open ∷ part_tokens p.parser +> the sign.Comma ∷ part_tokens p.ingress +> the sign.Comma ∷ part_tokens p.deparser
    +> the sign.Close ∷ lexeme.Name (codes "main") ∷ the sign.Semicolon ∷ []

unfoldable pub program_tokens : P4Program → List Lexeme
program_tokens p =
    all declaration_tokens p.declarations +> parser_tokens p.parser +> ingress_tokens p.ingress +> deparser_tokens p.deparser
    +> package_tokens p.«package»

-- the two lines that come first
abbrev pub includes : List ℕ
includes = codes "#include <core.p4>\n#include <rp.p4>\n"

-- the canonical text
abbrev pub canon : P4Program → List ℕ
canon p = includes ++ text (program_tokens p)
