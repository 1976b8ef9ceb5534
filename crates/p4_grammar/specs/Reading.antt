-- Reading programs, with one token in hand.
use Rattle.std.specs.Prelude.{ℕ, zero, suc, Bool, true, false, List, [], ◌∷◌, length, Result, Err, Option, Some, None, codes}
use Rattle.p4_lex.specs.declared.token.Sign.{Sign}
use Rattle.p4_lex.specs.declared.token.Sign.TheVariants as sign
use Rattle.p4_lex.specs.declared.token.Token.{Token}
use Rattle.p4_ast.specs.declared.name.P4Name.{P4Name}
use Rattle.p4_ast.specs.declared.name.P4Number.{P4Number}
use Rattle.p4_ast.specs.declared.declaration.P4Type.{P4Type}
use Rattle.p4_ast.specs.declared.declaration.P4Type.TheVariants as type
use Rattle.p4_ast.specs.declared.declaration.P4Field.{P4Field}
use Rattle.p4_ast.specs.declared.declaration.P4Header.{P4Header}
use Rattle.p4_ast.specs.declared.declaration.P4Struct.{P4Struct}
use Rattle.p4_ast.specs.declared.declaration.P4Typedef.{P4Typedef}
use Rattle.p4_ast.specs.declared.declaration.P4Const.{P4Const}
use Rattle.p4_ast.specs.declared.declaration.P4Declaration.{P4Declaration}
use Rattle.p4_ast.specs.declared.declaration.P4Declaration.TheVariants as declaration
use Rattle.p4_ast.specs.declared.parser.P4Parser.{P4Parser}
use Rattle.p4_ast.specs.declared.parser.P4State.{P4State}
use Rattle.p4_ast.specs.declared.parser.P4Step.{P4Step}
use Rattle.p4_ast.specs.declared.parser.P4Step.TheVariants as step
use Rattle.p4_ast.specs.declared.parser.P4Target.{P4Target}
use Rattle.p4_ast.specs.declared.parser.P4Target.TheVariants as target
use Rattle.p4_ast.specs.declared.parser.P4Case.{P4Case}
use Rattle.p4_ast.specs.declared.parser.P4Keyset.{P4Keyset}
use Rattle.p4_ast.specs.declared.parser.P4Keyset.TheVariants as keyset
use Rattle.p4_ast.specs.declared.parser.P4One.{P4One}
use Rattle.p4_ast.specs.declared.parser.P4One.TheVariants as one
use Rattle.p4_ast.specs.declared.control.P4Param.{P4Param}
use Rattle.p4_ast.specs.declared.control.P4Ingress.{P4Ingress}
use Rattle.p4_ast.specs.declared.control.P4Local.{P4Local}
use Rattle.p4_ast.specs.declared.control.P4Local.TheVariants as local
use Rattle.p4_ast.specs.declared.control.P4Cell.{P4Cell}
use Rattle.p4_ast.specs.declared.control.P4Cell.TheVariants as cell
use Rattle.p4_ast.specs.declared.control.P4Action.{P4Action}
use Rattle.p4_ast.specs.declared.table.P4Table.{P4Table}
use Rattle.p4_ast.specs.declared.table.P4Keys.{P4Keys}
use Rattle.p4_ast.specs.declared.table.P4Key.{P4Key}
use Rattle.p4_ast.specs.declared.table.P4Match.{P4Match}
use Rattle.p4_ast.specs.declared.table.P4Match.TheVariants as matching
use Rattle.p4_ast.specs.declared.table.P4Acts.{P4Acts}
use Rattle.p4_ast.specs.declared.table.P4Default.{P4Default}
use Rattle.p4_ast.specs.declared.table.P4Entries.{P4Entries}
use Rattle.p4_ast.specs.declared.table.P4Entry.{P4Entry}
use Rattle.p4_ast.specs.declared.table.P4Size.{P4Size}
use Rattle.p4_ast.specs.declared.table.P4Call.{P4Call}
use Rattle.p4_ast.specs.declared.program.P4Program.{P4Program}
use Rattle.p4_ast.specs.declared.program.P4Deparser.{P4Deparser}
use Rattle.p4_ast.specs.declared.program.P4Emit.{P4Emit}
use Rattle.p4_ast.specs.declared.program.P4Package.{P4Package}
use Rattle.p4_grammar.specs.declared.mark.Properties.{Properties}
use Rattle.p4_grammar.specs.declared.mark.Spelled.{Spelled}
use Rattle.p4_grammar.specs.Forms.{Reader, done_at, bind_at, taken_at, either_at, many_at, steps_at, option_at, all_at}
use Rattle.p4_grammar.specs.Tokens.{is, name, number, the_name, in_hand, but, one_of, words_at, called}
use Rattle.p4_grammar.specs.Values.{Env, cast_by, path_of, first_at, cast_value}
pub use Rattle.p4_grammar.specs.Trees.{Declared, declared_more, start_of, is_const, keyset_place, field_of, program_of, left_of, alone, no_properties, is_none, with_default, with_entries, with_size}
use Rattle.p4_grammar.specs.ReadingExpressions.{bool_type_at, std_type_at, name_type_at, word_type, word_type_at, type_at, names_at, path_at, parens_at, unary_at, expr_at, behind_at, expression_at, expressions_at, args_at}
use Rattle.p4_grammar.specs.ReadingStatements.{slice_or_none_at, var_at, block_at}

-- ---- declarations

unfoldable pub field_at : Reader P4Field
field_at = bind_at type_at λ t. bind_at (taken_at name) λ x. words_at (sign.Semicolon ∷ []) (done_at (field_of t x))

unfoldable pub fields_at : ℕ → Reader (List P4Field)
fields_at n = words_at (sign.OpenBrace ∷ []) (bind_at (many_at n (but sign.CloseBrace) field_at) λ fs. words_at (sign.CloseBrace ∷ []) (done_at fs))

unfoldable pub header_at : ℕ → Reader P4Header
header_at n = bind_at (taken_at (is sign.Header)) λ at. bind_at (taken_at name) λ x. bind_at (fields_at n) λ fs. done_at (record { at = at; name = x; fields = fs })

unfoldable pub struct_at : ℕ → Reader P4Struct
struct_at n = bind_at (taken_at (is sign.Struct)) λ at. bind_at (taken_at name) λ x. bind_at (fields_at n) λ fs. done_at (record { at = at; name = x; fields = fs })

unfoldable pub typedef_at : Reader P4Typedef
typedef_at = bind_at (taken_at (is sign.Typedef)) λ at. bind_at type_at λ t. bind_at (taken_at name) λ x. words_at (sign.Semicolon ∷ []) (done_at (record { at = at; type_ = t; name = x }))

unfoldable pub const_at : ℕ → Env → Reader P4Const
const_at n env = bind_at (taken_at (is sign.Const)) λ at. bind_at type_at λ t. bind_at (taken_at name) λ x. words_at (sign.Assign ∷ []) (bind_at (expression_at n env) λ e. words_at (sign.Semicolon ∷ []) (done_at (record { at = at; type_ = t; name = x; expr = e })))

unfoldable pub declaration_at : ℕ → Env → Reader P4Declaration
declaration_at n env = either_at (in_hand sign.Header) (bind_at (header_at n) λ h. done_at (declaration.Header h))
    (either_at (in_hand sign.Struct) (bind_at (struct_at n) λ s. done_at (declaration.Struct s))
    (either_at (in_hand sign.Typedef) (bind_at typedef_at λ t. done_at (declaration.Typedef t))
    (bind_at (const_at n env) λ c. done_at (declaration.Const c))))

abbrev pub begins_declaration : Token → Bool
begins_declaration = one_of (sign.Header ∷ sign.Struct ∷ sign.Typedef ∷ sign.Const ∷ [])

unfoldable pub declarations_at : ℕ → Reader Declared
declarations_at n = steps_at n begins_declaration (λ s. bind_at (declaration_at n s.0) λ d. done_at (declared_more s d)) ([], [])

-- ---- parameters

-- a parameter behind this sign whose type is a name
unfoldable pub param_at : Sign → Reader P4Param
param_at s = bind_at (taken_at (is s)) λ at. bind_at (taken_at name) λ t. bind_at (taken_at name) λ x. done_at (record { at = at; type_ = t; name = x })

-- ---- keysets

unfoldable pub masked_at : ℕ → Env → Spelled → Reader P4One
masked_at n env x = either_at (in_hand sign.Mask)
    (words_at (sign.Mask ∷ []) (bind_at (expression_at n env) λ m. done_at (one.Expr x.at x.expr (Some m))))
    (done_at (one.Expr x.at x.expr None))

unfoldable pub any_at : Reader P4One
any_at = bind_at (taken_at (is sign.Any)) λ at. done_at (one.Any at)

unfoldable pub one_at : ℕ → Env → Reader P4One
one_at n env = either_at (in_hand sign.Any) any_at (bind_at (expr_at n env) λ x. masked_at n env x)

-- behind the first of a tuple, which begins at this place
unfoldable pub tuple_rest_at : ℕ → Env → ℕ → P4One → Reader P4Keyset
tuple_rest_at n env at o = words_at (sign.Comma ∷ []) (bind_at (one_at n env) λ p. bind_at (many_at n (in_hand sign.Comma) (words_at (sign.Comma ∷ []) (one_at n env))) λ ps. words_at (sign.Close ∷ []) (done_at (keyset.Tuple at (o ∷ p ∷ ps))))

-- a single one, behind the first operand of its expression
unfoldable pub one_behind_at : ℕ → Env → Spelled → Reader P4Keyset
one_behind_at n env v = bind_at (behind_at n env v) λ x. bind_at (masked_at n env x) λ o. done_at (keyset.One o)

-- behind `(` and an expression: a tuple, or an operand in parentheses
unfoldable pub grouped_at : ℕ → Env → ℕ → Spelled → Reader P4Keyset
grouped_at n env at x = either_at (in_hand sign.Mask)
    (words_at (sign.Mask ∷ []) (bind_at (expression_at n env) λ m. tuple_rest_at n env at (one.Expr x.at x.expr (Some m))))
    (either_at (in_hand sign.Comma) (tuple_rest_at n env at (one.Expr x.at x.expr None))
    (words_at (sign.Close ∷ []) (bind_at (parens_at at (cast_by env x.mark) (unary_at n env) x.expr) λ v. one_behind_at n env v)))

unfoldable pub open_keyset_at : ℕ → Env → Reader P4Keyset
open_keyset_at n env = bind_at (taken_at (is sign.Open)) λ at. either_at (in_hand sign.Any) (bind_at any_at λ o. tuple_rest_at n env at o)
    (either_at word_type (bind_at word_type_at λ t. words_at (sign.Close ∷ []) (bind_at (unary_at n env) λ y. one_behind_at n env (cast_value at t y)))
    (bind_at (expr_at n env) λ x. grouped_at n env at x))

unfoldable pub keyset_at : ℕ → Env → Reader P4Keyset
keyset_at n env = either_at (in_hand sign.Default) (bind_at (taken_at (is sign.Default)) λ at. done_at (keyset.Default at))
    (either_at (in_hand sign.Open) (open_keyset_at n env)
    (bind_at (one_at n env) λ o. done_at (keyset.One o)))

-- ---- the parser

-- behind the path of a state's statement: `extract` by its name, and else an assignment
unfoldable pub state_assign_at : ℕ → Env → List P4Name → Reader P4Step
state_assign_at n env names = bind_at slice_or_none_at λ s. words_at (sign.Assign ∷ []) (bind_at (expression_at n env) λ e. words_at (sign.Semicolon ∷ []) (done_at (step.Assign (record { at = first_at names; left = left_of names s; expr = e }))))

unfoldable pub extract_rest_at : ℕ → P4Name → Reader P4Step
extract_rest_at n p = words_at (sign.Open ∷ []) (bind_at (path_at n) λ q. words_at (sign.Close ∷ sign.Semicolon ∷ []) (done_at (step.Extract (record { at = p.at; name = p; path = path_of q }))))

unfoldable pub or_extract_at : ℕ → Option P4Name → Reader P4Step → Reader P4Step
or_extract_at n None p = p
or_extract_at n (Some x) p = either_at (in_hand sign.Open) (extract_rest_at n x) p

unfoldable pub step_at : ℕ → Env → Reader P4Step
step_at n env = bind_at (taken_at name) λ x. bind_at (names_at n) λ xs. or_extract_at n (alone (called (codes "extract") x xs)) (state_assign_at n env (x ∷ xs))

unfoldable pub case_at : ℕ → Env → Reader P4Case
case_at n env = bind_at (keyset_at n env) λ k. words_at (sign.Colon ∷ []) (bind_at (taken_at name) λ x. words_at (sign.Semicolon ∷ []) (done_at (record { at = keyset_place k; keyset = k; name = x })))

unfoldable pub select_at : ℕ → Env → Reader P4Target
select_at n env = bind_at (taken_at (is sign.Select)) λ at. words_at (sign.Open ∷ []) (bind_at (expressions_at n env) λ es. words_at (sign.Close ∷ sign.OpenBrace ∷ []) (bind_at (many_at n (but sign.CloseBrace) (case_at n env)) λ cs. words_at (sign.CloseBrace ∷ []) (done_at (target.Select at es cs))))

unfoldable pub target_at : ℕ → Env → Reader P4Target
target_at n env = either_at (in_hand sign.Select) (select_at n env) (bind_at (taken_at name) λ x. words_at (sign.Semicolon ∷ []) (done_at (target.Name x.at x)))

unfoldable pub state_at : ℕ → Env → Reader P4State
state_at n env = bind_at (taken_at (is sign.State)) λ at. bind_at (taken_at name) λ x. words_at (sign.OpenBrace ∷ []) (bind_at (many_at n (but sign.Transition) (step_at n env)) λ ss. words_at (sign.Transition ∷ []) (bind_at (target_at n env) λ t. words_at (sign.CloseBrace ∷ []) (done_at (record { at = at; name = x; steps = ss; target = t }))))

unfoldable pub states_at : ℕ → Env → Reader (List P4State)
states_at n env = words_at (sign.OpenBrace ∷ []) (bind_at (many_at n (but sign.CloseBrace) (state_at n env)) λ ss. words_at (sign.CloseBrace ∷ []) (done_at ss))

unfoldable pub parser_at : ℕ → Env → Reader P4Parser
parser_at n env = bind_at (taken_at (is sign.Parser)) λ at. bind_at (taken_at name) λ x. words_at (sign.Open ∷ sign.PacketIn ∷ []) (bind_at (taken_at name) λ p. words_at (sign.Comma ∷ []) (bind_at (param_at sign.Out) λ h. words_at (sign.Comma ∷ []) (bind_at (param_at sign.Inout) λ m. words_at (sign.Comma ∷ sign.Inout ∷ sign.StdT ∷ []) (bind_at (taken_at name) λ s. words_at (sign.Close ∷ []) (bind_at (states_at n env) λ ss. done_at (record { at = at; name = x; packet = p; headers = h; meta = m; std = s; states = ss }))))))

-- ---- tables

unfoldable pub match_at : Reader P4Match
match_at = either_at (in_hand sign.Exact) (words_at (sign.Exact ∷ []) (done_at matching.Exact))
    (either_at (in_hand sign.Lpm) (words_at (sign.Lpm ∷ []) (done_at matching.Lpm))
    (words_at (sign.Ternary ∷ []) (done_at matching.Ternary)))

unfoldable pub key_of_at : ℕ → Env → Reader P4Key
key_of_at n env = bind_at (expr_at n env) λ x. words_at (sign.Colon ∷ []) (bind_at match_at λ m. words_at (sign.Semicolon ∷ []) (done_at (record { at = x.at; expr = x.expr; matching = m })))

unfoldable pub keys_at : ℕ → Env → Reader P4Keys
keys_at n env = bind_at (taken_at (is sign.Key)) λ at. words_at (sign.Assign ∷ sign.OpenBrace ∷ []) (bind_at (many_at n (but sign.CloseBrace) (key_of_at n env)) λ ks. words_at (sign.CloseBrace ∷ []) (done_at (record { at = at; keys = ks })))

unfoldable pub act_at : Reader P4Name
act_at = bind_at (taken_at name) λ x. words_at (sign.Semicolon ∷ []) (done_at x)

unfoldable pub acts_at : ℕ → Reader P4Acts
acts_at n = bind_at (taken_at (is sign.Actions)) λ at. words_at (sign.Assign ∷ sign.OpenBrace ∷ []) (bind_at (many_at n (but sign.CloseBrace) act_at) λ xs. words_at (sign.CloseBrace ∷ []) (done_at (record { at = at; names = xs })))

unfoldable pub call_at : ℕ → Env → Reader P4Call
call_at n env = bind_at (taken_at name) λ x. either_at (in_hand sign.Open) (bind_at (args_at n env) λ args. done_at (record { at = x.at; name = x; args = args })) (done_at (record { at = x.at; name = x; args = [] }))

unfoldable pub default_at : ℕ → Env → Option ℕ → Reader P4Default
default_at n env c = bind_at (taken_at (is sign.DefaultAction)) λ at. words_at (sign.Assign ∷ []) (bind_at (call_at n env) λ f. words_at (sign.Semicolon ∷ []) (done_at (record { at = start_of c at; const_ = is_const c; call = f })))

unfoldable pub entry_at : ℕ → Env → Reader P4Entry
entry_at n env = bind_at (keyset_at n env) λ k. words_at (sign.Colon ∷ []) (bind_at (call_at n env) λ f. words_at (sign.Semicolon ∷ []) (done_at (record { at = keyset_place k; keyset = k; call = f })))

unfoldable pub entries_at : ℕ → Env → Option ℕ → Reader P4Entries
entries_at n env c = bind_at (taken_at (is sign.Entries)) λ at. words_at (sign.Assign ∷ sign.OpenBrace ∷ []) (bind_at (many_at n (but sign.CloseBrace) (entry_at n env)) λ es. words_at (sign.CloseBrace ∷ []) (done_at (record { at = start_of c at; const_ = is_const c; entries = es })))

unfoldable pub size_at : Reader P4Size
size_at = bind_at (taken_at (is sign.Size)) λ at. words_at (sign.Assign ∷ []) (bind_at (taken_at number) λ k. words_at (sign.Semicolon ∷ []) (done_at (record { at = at; number = k })))

-- the default action, behind `const` at this place or without it
abbrev pub Part : Type 0
Part = Option ℕ → Reader Properties

-- `const` and what may stand behind it, where the first two say which of d and e may still come
unfoldable pub const_or_at : Bool → Bool → Part → Part → Reader Properties → Reader Properties
const_or_at true true d e q = either_at (in_hand sign.Const) (bind_at (taken_at (is sign.Const)) λ at. either_at (in_hand sign.DefaultAction) (d (Some at)) (e (Some at))) q
const_or_at true false d e q = either_at (in_hand sign.Const) (bind_at (taken_at (is sign.Const)) λ at. d (Some at)) q
const_or_at false true d e q = either_at (in_hand sign.Const) (bind_at (taken_at (is sign.Const)) λ at. e (Some at)) q
const_or_at false false d e q = q

-- the properties of a table that are left, each at most once; `left` bounds how many
unfoldable pub properties_at : ℕ → Env → ℕ → Properties → Reader Properties
properties_at n env zero a w = Err w
properties_at n env (suc left) a w = const_or_at (is_none a.default) (is_none a.entries)
    (λ c. bind_at (default_at n env c) λ d. properties_at n env left (with_default a d)) (λ c. bind_at (entries_at n env c) λ e. properties_at n env left (with_entries a e))
    (option_at (is_none a.default) (in_hand sign.DefaultAction) (bind_at (default_at n env None) λ d. properties_at n env left (with_default a d))
    (option_at (is_none a.entries) (in_hand sign.Entries) (bind_at (entries_at n env None) λ e. properties_at n env left (with_entries a e))
    (option_at (is_none a.size) (in_hand sign.Size) (bind_at size_at λ s. properties_at n env left (with_size a s))
    (done_at a)))) w

unfoldable pub table_at : ℕ → Env → Reader P4Table
table_at n env = bind_at (taken_at (is sign.Table)) λ at. bind_at (taken_at name) λ x. words_at (sign.OpenBrace ∷ []) (bind_at (keys_at n env) λ ks. bind_at (acts_at n) λ acts. bind_at (properties_at n env n no_properties) λ a. words_at (sign.CloseBrace ∷ []) (done_at (record { at = at; name = x; keys = ks; acts = acts; default = a.default; entries = a.entries; size = a.size })))

-- ---- the ingress control

-- behind the width of a `bit` type: `>>` counts as two where both are due
unfoldable pub bit_closed_at : ℕ → P4Number → Reader P4Type
bit_closed_at at n = either_at (in_hand sign.More) (words_at (sign.More ∷ sign.More ∷ []) (done_at (type.Bit at n))) (words_at (sign.ShiftRight ∷ []) (done_at (type.Bit at n)))

-- a type and the closing sign behind it
unfoldable pub closed_type_at : Reader P4Type
closed_type_at = either_at (in_hand sign.Bit) (bind_at (taken_at (is sign.Bit)) λ at. words_at (sign.Less ∷ []) (bind_at (taken_at number) λ n. bit_closed_at at n))
    (either_at (in_hand sign.Bool) (bind_at bool_type_at λ t. words_at (sign.More ∷ []) (done_at t))
    (either_at (in_hand sign.StdT) (bind_at std_type_at λ t. words_at (sign.More ∷ []) (done_at t))
    (bind_at name_type_at λ t. words_at (sign.More ∷ []) (done_at t))))

unfoldable pub flow_cell_at : Reader P4Cell
flow_cell_at = bind_at (taken_at (is sign.FlowCell)) λ at. words_at (sign.Less ∷ []) (bind_at closed_type_at λ t. words_at (sign.Open ∷ sign.Close ∷ []) (bind_at (taken_at name) λ x. words_at (sign.Semicolon ∷ []) (done_at (cell.Cell at t x))))

unfoldable pub flow_array_at : Reader P4Cell
flow_array_at = bind_at (taken_at (is sign.FlowArray)) λ at. words_at (sign.Less ∷ []) (bind_at closed_type_at λ t. words_at (sign.Open ∷ []) (bind_at (taken_at number) λ k. words_at (sign.Close ∷ []) (bind_at (taken_at name) λ x. words_at (sign.Semicolon ∷ []) (done_at (cell.Array at t k x)))))

unfoldable pub typed_at : Reader P4Field
typed_at = bind_at type_at λ t. bind_at (taken_at name) λ x. done_at (field_of t x)

-- the parameters of an action
unfoldable pub typed_list_at : ℕ → Reader (List P4Field)
typed_list_at n = words_at (sign.Open ∷ []) (either_at (in_hand sign.Close) (words_at (sign.Close ∷ []) (done_at []))
    (bind_at typed_at λ p. bind_at (many_at n (in_hand sign.Comma) (words_at (sign.Comma ∷ []) typed_at)) λ ps. words_at (sign.Close ∷ []) (done_at (p ∷ ps))))

unfoldable pub action_at : ℕ → Env → Reader P4Action
action_at n env = bind_at (taken_at (is sign.Action)) λ at. bind_at (taken_at name) λ x. bind_at (typed_list_at n) λ ps. bind_at (block_at n env) λ b. done_at (record { at = at; name = x; params = ps; block = b })

unfoldable pub local_at : ℕ → Env → Reader P4Local
local_at n env = either_at (in_hand sign.Const) (bind_at (const_at n env) λ c. done_at (local.Const c))
    (either_at (in_hand sign.FlowCell) (bind_at flow_cell_at λ c. done_at (local.Cell c))
    (either_at (in_hand sign.FlowArray) (bind_at flow_array_at λ c. done_at (local.Cell c))
    (either_at (in_hand sign.Action) (bind_at (action_at n env) λ a. done_at (local.Action a))
    (either_at (in_hand sign.Table) (bind_at (table_at n env) λ t. done_at (local.Table t))
    (bind_at (var_at n env type_at) λ v. done_at (local.Var v))))))

-- a fourth parameter, or none
unfoldable pub last_param_at : Reader (Option P4Param)
last_param_at = either_at (in_hand sign.Comma) (words_at (sign.Comma ∷ []) (bind_at (param_at sign.Inout) λ p. done_at (Some p))) (done_at None)

unfoldable pub ingress_at : ℕ → Env → Reader P4Ingress
ingress_at n env = bind_at (taken_at (is sign.Control)) λ at. bind_at (taken_at name) λ x. words_at (sign.Open ∷ []) (bind_at (param_at sign.Inout) λ h. words_at (sign.Comma ∷ []) (bind_at (param_at sign.Inout) λ m. words_at (sign.Comma ∷ sign.Inout ∷ sign.StdT ∷ []) (bind_at (taken_at name) λ s. bind_at last_param_at λ rp. words_at (sign.Close ∷ sign.OpenBrace ∷ []) (bind_at (many_at n (but sign.Apply) (local_at n env)) λ ls. words_at (sign.Apply ∷ []) (bind_at (block_at n env) λ b. words_at (sign.CloseBrace ∷ []) (done_at (record { at = at; name = x; headers = h; meta = m; std = s; rp = rp; locals = ls; block = b })))))))

-- ---- the deparser, the package and the program

unfoldable pub emit_at : ℕ → Reader P4Emit
emit_at n = bind_at (taken_at name) λ x. words_at (sign.Dot ∷ []) (bind_at (taken_at (the_name (codes "emit"))) λ at. words_at (sign.Open ∷ []) (bind_at (path_at n) λ q. words_at (sign.Close ∷ sign.Semicolon ∷ []) (done_at (record { at = x.at; name = x; path = path_of q }))))

unfoldable pub deparser_at : ℕ → Reader P4Deparser
deparser_at n = bind_at (taken_at (is sign.Control)) λ at. bind_at (taken_at name) λ x. words_at (sign.Open ∷ sign.PacketOut ∷ []) (bind_at (taken_at name) λ p. words_at (sign.Comma ∷ []) (bind_at (param_at sign.In) λ h. words_at (sign.Close ∷ sign.OpenBrace ∷ sign.Apply ∷ sign.OpenBrace ∷ []) (bind_at (many_at n (but sign.CloseBrace) (emit_at n)) λ es. words_at (sign.CloseBrace ∷ sign.CloseBrace ∷ []) (done_at (record { at = at; name = x; packet = p; headers = h; emits = es })))))

-- a name with empty parentheses
unfoldable pub instance_at : Reader P4Name
instance_at = bind_at (taken_at name) λ x. words_at (sign.Open ∷ sign.Close ∷ []) (done_at x)

unfoldable pub package_at : Reader P4Package
package_at = bind_at (taken_at (is sign.RpSwitch)) λ at. words_at (sign.Open ∷ []) (bind_at instance_at λ p. words_at (sign.Comma ∷ []) (bind_at instance_at λ i. words_at (sign.Comma ∷ []) (bind_at instance_at λ d. words_at (sign.Close ∷ []) (bind_at (taken_at (the_name (codes "main"))) λ m. words_at (sign.Semicolon ∷ []) (done_at (record { at = at; parser = p; ingress = i; deparser = d }))))))

-- the program, with this much fuel
unfoldable pub program_at : ℕ → Reader P4Program
program_at n = bind_at (declarations_at n) λ s. bind_at (parser_at n s.0) λ p. bind_at (ingress_at n s.0) λ i. bind_at (deparser_at n) λ d. bind_at package_at λ k. done_at (program_of s.1 p i d k)

-- the program that the tokens spell, or the tokens from the first one on at which none begins so
unfoldable pub programs_of : List Token → Result P4Program (List Token)
programs_of w = all_at (program_at (suc (length w))) w
