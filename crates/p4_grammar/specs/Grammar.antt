-- The grammar of programs. A production is the language of its trees.
use Rattle.std.specs.Prelude.{ℕ, List, [], ◌∷◌, Option, Some, None, codes}
use Rattle.p4_lex.specs.declared.token.Sign.{Sign}
use Rattle.p4_lex.specs.declared.token.Sign.TheVariants as sign
use Rattle.p4_ast.specs.declared.name.P4Name.{P4Name}
use Rattle.p4_ast.specs.declared.declaration.P4Type.{P4Type}
use Rattle.p4_ast.specs.declared.declaration.P4Type.TheVariants as type
use Rattle.p4_ast.specs.declared.declaration.P4Field.{P4Field}
use Rattle.p4_ast.specs.declared.declaration.P4Header.{P4Header}
use Rattle.p4_ast.specs.declared.declaration.P4Struct.{P4Struct}
use Rattle.p4_ast.specs.declared.declaration.P4Typedef.{P4Typedef}
use Rattle.p4_ast.specs.declared.declaration.P4Const.{P4Const}
use Rattle.p4_ast.specs.declared.declaration.P4Declaration.{P4Declaration}
use Rattle.p4_ast.specs.declared.declaration.P4Declaration.TheVariants as declaration
use Rattle.p4_ast.specs.declared.parser.P4Parser.{P4Parser}
use Rattle.p4_ast.specs.declared.parser.P4State.{P4State}
use Rattle.p4_ast.specs.declared.parser.P4Step.{P4Step}
use Rattle.p4_ast.specs.declared.parser.P4Step.TheVariants as step
use Rattle.p4_ast.specs.declared.parser.P4Target.{P4Target}
use Rattle.p4_ast.specs.declared.parser.P4Target.TheVariants as target
use Rattle.p4_ast.specs.declared.parser.P4Case.{P4Case}
use Rattle.p4_ast.specs.declared.parser.P4Keyset.{P4Keyset}
use Rattle.p4_ast.specs.declared.parser.P4Keyset.TheVariants as keyset
use Rattle.p4_ast.specs.declared.parser.P4One.{P4One}
use Rattle.p4_ast.specs.declared.parser.P4One.TheVariants as one
use Rattle.p4_ast.specs.declared.control.P4Param.{P4Param}
use Rattle.p4_ast.specs.declared.control.P4Ingress.{P4Ingress}
use Rattle.p4_ast.specs.declared.control.P4Local.{P4Local}
use Rattle.p4_ast.specs.declared.control.P4Local.TheVariants as local
use Rattle.p4_ast.specs.declared.control.P4Cell.{P4Cell}
use Rattle.p4_ast.specs.declared.control.P4Cell.TheVariants as cell
use Rattle.p4_ast.specs.declared.control.P4Action.{P4Action}
use Rattle.p4_ast.specs.declared.table.P4Table.{P4Table}
use Rattle.p4_ast.specs.declared.table.P4Keys.{P4Keys}
use Rattle.p4_ast.specs.declared.table.P4Key.{P4Key}
use Rattle.p4_ast.specs.declared.table.P4Match.{P4Match}
use Rattle.p4_ast.specs.declared.table.P4Match.TheVariants as matching
use Rattle.p4_ast.specs.declared.table.P4Acts.{P4Acts}
use Rattle.p4_ast.specs.declared.table.P4Default.{P4Default}
use Rattle.p4_ast.specs.declared.table.P4Entries.{P4Entries}
use Rattle.p4_ast.specs.declared.table.P4Entry.{P4Entry}
use Rattle.p4_ast.specs.declared.table.P4Size.{P4Size}
use Rattle.p4_ast.specs.declared.table.P4Call.{P4Call}
use Rattle.p4_ast.specs.declared.program.P4Program.{P4Program}
use Rattle.p4_ast.specs.declared.program.P4Deparser.{P4Deparser}
use Rattle.p4_ast.specs.declared.program.P4Emit.{P4Emit}
use Rattle.p4_ast.specs.declared.program.P4Package.{P4Package}
use Rattle.p4_grammar.specs.declared.mark.Properties.{Properties}
use Rattle.p4_grammar.specs.Forms.{Lang, none, only, bind, either, taken, many, steps, option, Spells}
use Rattle.p4_grammar.specs.Tokens.{is, name, number, the_name, words}
use Rattle.p4_grammar.specs.Values.{Env, path_of, first_at}
use Rattle.p4_grammar.specs.Trees.{keyset_place, field_of, program_of, left_of, no_properties, is_none, with_default, with_entries, with_size, Declared, declared_more, start_of, is_const}
use Rattle.p4_grammar.specs.GrammarExpressions.{type_, path, expr, expression, expressions, args}
use Rattle.p4_grammar.specs.GrammarStatements.{slice_or_none, var, block}

-- ---- declarations

-- type name ";"
unfoldable pub field : Lang P4Field
field = bind type_ λ t. bind (taken name) λ x. words (sign.Semicolon ∷ []) (only (field_of t x))

-- "{" { type name ";" } "}"
unfoldable pub fields : Lang (List P4Field)
fields = words (sign.OpenBrace ∷ []) (bind (many field) λ fs. words (sign.CloseBrace ∷ []) (only fs))

-- header = "header" name "{" { type name ";" } "}"
unfoldable pub header : Lang P4Header
header = bind (taken (is sign.Header)) λ at. bind (taken name) λ x. bind fields λ fs. only (record { at = at; name = x; fields = fs })

-- struct = "struct" name "{" { type name ";" } "}"
unfoldable pub struct_ : Lang P4Struct
struct_ = bind (taken (is sign.Struct)) λ at. bind (taken name) λ x. bind fields λ fs. only (record { at = at; name = x; fields = fs })

-- typedef = "typedef" type name ";"
unfoldable pub typedef : Lang P4Typedef
typedef = bind (taken (is sign.Typedef)) λ at. bind type_ λ t. bind (taken name) λ x. words (sign.Semicolon ∷ []) (only (record { at = at; type_ = t; name = x }))

-- const = "const" type name "=" expr ";"
unfoldable pub const_ : Env → Lang P4Const
const_ env = bind (taken (is sign.Const)) λ at. bind type_ λ t. bind (taken name) λ x. words (sign.Assign ∷ []) (bind (expression env) λ e. words (sign.Semicolon ∷ []) (only (record { at = at; type_ = t; name = x; expr = e })))

-- header | struct | typedef | const
unfoldable pub declaration_ : Env → Lang P4Declaration
declaration_ env = either (bind header λ h. only (declaration.Header h))
    (either (bind struct_ λ s. only (declaration.Struct s))
    (either (bind typedef λ t. only (declaration.Typedef t))
    (bind (const_ env) λ c. only (declaration.Const c))))

-- { header | struct | typedef | const }, each behind the typedefs before it
unfoldable pub declarations : Lang Declared
declarations = Spells (λ k. steps k (λ s. bind (declaration_ s.0) λ d. only (declared_more s d)) ([], []))

-- ---- parameters

-- s name name
unfoldable pub param : Sign → Lang P4Param
param s = bind (taken (is s)) λ at. bind (taken name) λ t. bind (taken name) λ x. only (record { at = at; type_ = t; name = x })

-- ---- keysets

-- one = "_" | expr [ "&&&" expr ]
unfoldable pub one_ : Env → Lang P4One
one_ env = either (bind (taken (is sign.Any)) λ at. only (one.Any at))
    (bind (expr env) λ x. either (words (sign.Mask ∷ []) (bind (expression env) λ m. only (one.Expr x.at x.expr (Some m)))) (only (one.Expr x.at x.expr None)))

-- keyset = "default" | one | "(" one "," one { "," one } ")"
unfoldable pub keyset_ : Env → Lang P4Keyset
keyset_ env = either (bind (taken (is sign.Default)) λ at. only (keyset.Default at))
    (either (bind (one_ env) λ o. only (keyset.One o))
    (bind (taken (is sign.Open)) λ at. bind (one_ env) λ o. words (sign.Comma ∷ []) (bind (one_ env) λ p. bind (many (words (sign.Comma ∷ []) (one_ env))) λ ps. words (sign.Close ∷ []) (only (keyset.Tuple at (o ∷ p ∷ ps))))))

-- ---- the parser

-- extract = name "." "extract" "(" path ")" ";"
unfoldable pub extract : Lang P4Step
extract = bind (taken name) λ x. words (sign.Dot ∷ []) (bind (taken (the_name (codes "extract"))) λ at. words (sign.Open ∷ []) (bind path λ q. words (sign.Close ∷ sign.Semicolon ∷ []) (only (step.Extract (record { at = x.at; name = x; path = path_of q })))))

-- assign = left "=" expr ";"
unfoldable pub state_assign : Env → Lang P4Step
state_assign env = bind path λ p. bind slice_or_none λ s. words (sign.Assign ∷ []) (bind (expression env) λ e. words (sign.Semicolon ∷ []) (only (step.Assign (record { at = first_at p; left = left_of p s; expr = e }))))

-- extract | assign
unfoldable pub step_ : Env → Lang P4Step
step_ env = either extract (state_assign env)

-- keyset ":" name ";"
unfoldable pub case_ : Env → Lang P4Case
case_ env = bind (keyset_ env) λ k. words (sign.Colon ∷ []) (bind (taken name) λ x. words (sign.Semicolon ∷ []) (only (record { at = keyset_place k; keyset = k; name = x })))

-- "select" "(" expr { "," expr } ")" "{" { keyset ":" name ";" } "}"
unfoldable pub select : Env → Lang P4Target
select env = bind (taken (is sign.Select)) λ at. words (sign.Open ∷ []) (bind (expressions env) λ es. words (sign.Close ∷ sign.OpenBrace ∷ []) (bind (many (case_ env)) λ cs. words (sign.CloseBrace ∷ []) (only (target.Select at es cs))))

-- target = name ";" | "select" "(" expr { "," expr } ")" "{" { keyset ":" name ";" } "}"
unfoldable pub target_ : Env → Lang P4Target
target_ env = either (select env) (bind (taken name) λ x. words (sign.Semicolon ∷ []) (only (target.Name x.at x)))

-- state = "state" name "{" { extract | assign } "transition" target "}"
unfoldable pub state : Env → Lang P4State
state env = bind (taken (is sign.State)) λ at. bind (taken name) λ x. words (sign.OpenBrace ∷ []) (bind (many (step_ env)) λ ss. words (sign.Transition ∷ []) (bind (target_ env) λ t. words (sign.CloseBrace ∷ []) (only (record { at = at; name = x; steps = ss; target = t }))))

-- "{" { state } "}"
unfoldable pub states : Env → Lang (List P4State)
states env = words (sign.OpenBrace ∷ []) (bind (many (state env)) λ ss. words (sign.CloseBrace ∷ []) (only ss))

-- parser = "parser" name "(" "packet_in" name "," "out" name name "," "inout" name name "," "inout" "std_t" name ")" "{" { state } "}"
unfoldable pub parser : Env → Lang P4Parser
parser env = bind (taken (is sign.Parser)) λ at. bind (taken name) λ x. words (sign.Open ∷ sign.PacketIn ∷ []) (bind (taken name) λ p. words (sign.Comma ∷ []) (bind (param sign.Out) λ h. words (sign.Comma ∷ []) (bind (param sign.Inout) λ m. words (sign.Comma ∷ sign.Inout ∷ sign.StdT ∷ []) (bind (taken name) λ s. words (sign.Close ∷ []) (bind (states env) λ ss. only (record { at = at; name = x; packet = p; headers = h; meta = m; std = s; states = ss }))))))

-- ---- tables

-- "exact" | "lpm" | "ternary"
unfoldable pub match_ : Lang P4Match
match_ = either (words (sign.Exact ∷ []) (only matching.Exact)) (either (words (sign.Lpm ∷ []) (only matching.Lpm)) (words (sign.Ternary ∷ []) (only matching.Ternary)))

-- expr ":" ( "exact" | "lpm" | "ternary" ) ";"
unfoldable pub key : Env → Lang P4Key
key env = bind (expr env) λ x. words (sign.Colon ∷ []) (bind match_ λ m. words (sign.Semicolon ∷ []) (only (record { at = x.at; expr = x.expr; matching = m })))

-- keys = "key" "=" "{" { expr ":" ( "exact" | "lpm" | "ternary" ) ";" } "}"
unfoldable pub keys : Env → Lang P4Keys
keys env = bind (taken (is sign.Key)) λ at. words (sign.Assign ∷ sign.OpenBrace ∷ []) (bind (many (key env)) λ ks. words (sign.CloseBrace ∷ []) (only (record { at = at; keys = ks })))

-- name ";"
unfoldable pub act : Lang P4Name
act = bind (taken name) λ x. words (sign.Semicolon ∷ []) (only x)

-- acts = "actions" "=" "{" { name ";" } "}"
unfoldable pub acts : Lang P4Acts
acts = bind (taken (is sign.Actions)) λ at. words (sign.Assign ∷ sign.OpenBrace ∷ []) (bind (many act) λ xs. words (sign.CloseBrace ∷ []) (only (record { at = at; names = xs })))

-- call = name [ "(" [ expr { "," expr } ] ")" ]
unfoldable pub call : Env → Lang P4Call
call env = bind (taken name) λ x. either (bind (args env) λ xs. only (record { at = x.at; name = x; args = xs })) (only (record { at = x.at; name = x; args = [] }))

-- "default_action" "=" call ";" behind what may be a "const"
unfoldable pub default_of : Env → Option ℕ → Lang P4Default
default_of env c = bind (taken (is sign.DefaultAction)) λ at. words (sign.Assign ∷ []) (bind (call env) λ f. words (sign.Semicolon ∷ []) (only (record { at = start_of c at; const_ = is_const c; call = f })))

-- keyset ":" call ";"
unfoldable pub entry : Env → Lang P4Entry
entry env = bind (keyset_ env) λ k. words (sign.Colon ∷ []) (bind (call env) λ f. words (sign.Semicolon ∷ []) (only (record { at = keyset_place k; keyset = k; call = f })))

-- "entries" "=" "{" { keyset ":" call ";" } "}" behind what may be a "const"
unfoldable pub entries_of : Env → Option ℕ → Lang P4Entries
entries_of env c = bind (taken (is sign.Entries)) λ at. words (sign.Assign ∷ sign.OpenBrace ∷ []) (bind (many (entry env)) λ es. words (sign.CloseBrace ∷ []) (only (record { at = start_of c at; const_ = is_const c; entries = es })))

-- size = "size" "=" number ";"
unfoldable pub size : Lang P4Size
size = bind (taken (is sign.Size)) λ at. words (sign.Assign ∷ []) (bind (taken number) λ k. words (sign.Semicolon ∷ []) (only (record { at = at; number = k })))

-- [ "const" ], as its place
unfoldable pub const_or_none : Lang (Option ℕ)
const_or_none = either (bind (taken (is sign.Const)) λ at. only (Some at)) (only None)

-- default = [ "const" ] "default_action" "=" call ";"
unfoldable pub default : Env → Lang P4Default
default env = bind const_or_none (default_of env)

-- entries = [ "const" ] "entries" "=" "{" { keyset ":" call ";" } "}"
unfoldable pub entries : Env → Lang P4Entries
entries env = bind const_or_none (entries_of env)

-- one more property, of those that aren't there yet
unfoldable pub property : Env → Properties → Lang Properties
property env a = option (is_none a.default) (bind (default env) λ d. only (with_default a d))
    (option (is_none a.entries) (bind (entries env) λ e. only (with_entries a e))
    (option (is_none a.size) (bind size λ s. only (with_size a s)) none))

-- { default | entries | size }, each at most once
unfoldable pub properties : Env → Lang Properties
properties env = Spells (λ k. steps k (property env) no_properties)

-- table = "table" name "{" keys acts { default | entries | size } "}"
unfoldable pub table : Env → Lang P4Table
table env = bind (taken (is sign.Table)) λ at. bind (taken name) λ x. words (sign.OpenBrace ∷ []) (bind (keys env) λ ks. bind acts λ xs. bind (properties env) λ a. words (sign.CloseBrace ∷ []) (only (record { at = at; name = x; keys = ks; acts = xs; default = a.default; entries = a.entries; size = a.size })))

-- ---- the ingress control

-- a type and the closing ">" behind it; where its own stands before that, ">>" counts as two
unfoldable pub closed_type : Lang P4Type
closed_type = either (bind type_ λ t. words (sign.More ∷ []) (only t))
    (bind (taken (is sign.Bit)) λ at. words (sign.Less ∷ []) (bind (taken number) λ n. words (sign.ShiftRight ∷ []) (only (type.Bit at n))))

-- "FlowCell" "<" type ">" "(" ")" name ";"
unfoldable pub flow_cell : Lang P4Cell
flow_cell = bind (taken (is sign.FlowCell)) λ at. words (sign.Less ∷ []) (bind closed_type λ t. words (sign.Open ∷ sign.Close ∷ []) (bind (taken name) λ x. words (sign.Semicolon ∷ []) (only (cell.Cell at t x))))

-- "FlowArray" "<" type ">" "(" number ")" name ";"
unfoldable pub flow_array : Lang P4Cell
flow_array = bind (taken (is sign.FlowArray)) λ at. words (sign.Less ∷ []) (bind closed_type λ t. words (sign.Open ∷ []) (bind (taken number) λ k. words (sign.Close ∷ []) (bind (taken name) λ x. words (sign.Semicolon ∷ []) (only (cell.Array at t k x)))))

-- type name
unfoldable pub typed : Lang P4Field
typed = bind type_ λ t. bind (taken name) λ x. only (field_of t x)

-- "(" [ type name { "," type name } ] ")"
unfoldable pub typed_list : Lang (List P4Field)
typed_list = words (sign.Open ∷ []) (either (words (sign.Close ∷ []) (only []))
    (bind typed λ p. bind (many (words (sign.Comma ∷ []) typed)) λ ps. words (sign.Close ∷ []) (only (p ∷ ps))))

-- action = "action" name "(" [ type name { "," type name } ] ")" block
unfoldable pub action : Env → Lang P4Action
action env = bind (taken (is sign.Action)) λ at. bind (taken name) λ x. bind typed_list λ ps. bind (block env) λ b. only (record { at = at; name = x; params = ps; block = b })

-- local = const | var | cell | action | table
unfoldable pub local_ : Env → Lang P4Local
local_ env = either (bind (const_ env) λ c. only (local.Const c))
    (either (bind flow_cell λ c. only (local.Cell c))
    (either (bind flow_array λ c. only (local.Cell c))
    (either (bind (action env) λ a. only (local.Action a))
    (either (bind (table env) λ t. only (local.Table t))
    (bind (var env) λ v. only (local.Var v))))))

-- [ "," "inout" name name ]
unfoldable pub last_param : Lang (Option P4Param)
last_param = either (words (sign.Comma ∷ []) (bind (param sign.Inout) λ p. only (Some p))) (only None)

-- ingress = "control" name "(" "inout" name name "," "inout" name name "," "inout" "std_t" name [ "," "inout" name name ] ")" "{" { local } "apply" block "}"
unfoldable pub ingress : Env → Lang P4Ingress
ingress env = bind (taken (is sign.Control)) λ at. bind (taken name) λ x. words (sign.Open ∷ []) (bind (param sign.Inout) λ h. words (sign.Comma ∷ []) (bind (param sign.Inout) λ m. words (sign.Comma ∷ sign.Inout ∷ sign.StdT ∷ []) (bind (taken name) λ s. bind last_param λ rp. words (sign.Close ∷ sign.OpenBrace ∷ []) (bind (many (local_ env)) λ ls. words (sign.Apply ∷ []) (bind (block env) λ b. words (sign.CloseBrace ∷ []) (only (record { at = at; name = x; headers = h; meta = m; std = s; rp = rp; locals = ls; block = b })))))))

-- ---- the deparser, the package and the program

-- name "." "emit" "(" path ")" ";"
unfoldable pub emit : Lang P4Emit
emit = bind (taken name) λ x. words (sign.Dot ∷ []) (bind (taken (the_name (codes "emit"))) λ at. words (sign.Open ∷ []) (bind path λ q. words (sign.Close ∷ sign.Semicolon ∷ []) (only (record { at = x.at; name = x; path = path_of q }))))

-- deparser = "control" name "(" "packet_out" name "," "in" name name ")" "{" "apply" "{" { name "." "emit" "(" path ")" ";" } "}" "}"
unfoldable pub deparser : Lang P4Deparser
deparser = bind (taken (is sign.Control)) λ at. bind (taken name) λ x. words (sign.Open ∷ sign.PacketOut ∷ []) (bind (taken name) λ p. words (sign.Comma ∷ []) (bind (param sign.In) λ h. words (sign.Close ∷ sign.OpenBrace ∷ sign.Apply ∷ sign.OpenBrace ∷ []) (bind (many emit) λ es. words (sign.CloseBrace ∷ sign.CloseBrace ∷ []) (only (record { at = at; name = x; packet = p; headers = h; emits = es })))))

-- name "(" ")"
unfoldable pub instance_ : Lang P4Name
instance_ = bind (taken name) λ x. words (sign.Open ∷ sign.Close ∷ []) (only x)

-- package = "RpSwitch" "(" name "(" ")" "," name "(" ")" "," name "(" ")" ")" "main" ";"
unfoldable pub package_ : Lang P4Package
package_ = bind (taken (is sign.RpSwitch)) λ at. words (sign.Open ∷ []) (bind instance_ λ p. words (sign.Comma ∷ []) (bind instance_ λ i. words (sign.Comma ∷ []) (bind instance_ λ d. words (sign.Close ∷ []) (bind (taken (the_name (codes "main"))) λ m. words (sign.Semicolon ∷ []) (only (record { at = at; parser = p; ingress = i; deparser = d }))))))

-- program = { header | struct | typedef | const } parser ingress deparser package
unfoldable pub program : Lang P4Program
program = bind declarations λ s. bind (parser s.0) λ p. bind (ingress s.0) λ i. bind deparser λ d. bind package_ λ k. only (program_of s.1 p i d k)
