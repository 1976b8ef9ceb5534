-- What the checks leave of a program, as far as the laws of its meaning and of its rewriting rest on it.
use Rattle.std.specs.Prelude.{◌≤◌, Bool, true, false, ◌&&◌, ◌||◌, not, List, [], ◌∷◌, Option, Some, None, ◌≡◌, if◌then◌else◌, nat_le, bytes_eq, codes}
use Rattle.p4_ast.specs.declared.declaration.P4Field.{P4Field}
use Rattle.p4_ast.specs.declared.expression.P4Expr.{P4Expr, fold-P4Expr}
use Rattle.p4_ast.specs.declared.expression.P4Expr.TheOpen as open_expr
use Rattle.p4_ast.specs.declared.expression.P4Expr.TheOpen.{P4Expr-F}
use Rattle.p4_ast.specs.declared.control.P4Local.{P4Local}
use Rattle.p4_ast.specs.declared.control.P4Param.{P4Param}
use Rattle.p4_ast.specs.declared.control.P4Local.TheVariants as local
use Rattle.p4_ast.specs.declared.statement.P4Cond.{P4Cond}
use Rattle.p4_ast.specs.declared.statement.P4Cond.TheVariants as cond
use Rattle.p4_ast.specs.declared.statement.P4Stmt.{P4Stmt, fold-P4Stmt}
use Rattle.p4_ast.specs.declared.statement.P4Stmt.TheOpen as layer
use Rattle.p4_ast.specs.declared.statement.P4Stmt.TheOpen.{P4Stmt-F, P4Block-F, P4If-F}
use Rattle.p4_ast.specs.declared.statement.P4Block.{P4Block, fold-P4Block}
use Rattle.p4_ast.specs.declared.statement.P4If.{P4If, fold-P4If}
use Rattle.p4_ast.specs.declared.parser.P4State.{P4State}
use Rattle.p4_ast.specs.declared.parser.P4Step.{P4Step}
use Rattle.p4_ast.specs.declared.parser.P4Step.TheVariants as step
use Rattle.p4_ast.specs.declared.parser.P4Target.{P4Target}
use Rattle.p4_ast.specs.declared.parser.P4Target.TheVariants as target
use Rattle.p4_ast.specs.declared.table.P4Key.{P4Key}
use Rattle.p4_ast.specs.declared.table.P4Entry.{P4Entry}
use Rattle.p4_ast.specs.declared.table.P4Default.{P4Default}
use Rattle.p4_ast.specs.declared.program.P4Emit.{P4Emit}
use Rattle.p4_ast.specs.declared.program.P4Program.{P4Program}
use Rattle.app_meaning.specs.Slots.{Name, Path, text, names}
use Rattle.app_meaning.specs.Actions.{entries_of}
use Rattle.app_meaning.specs.Programs.{cell_count}

-- ---- `rp` isn't named

-- the name `rp`, that of the fourth parameter
abbrev pub is_rp : Name → Bool
is_rp n = bytes_eq (codes "rp") n

-- a path doesn't begin with `rp`
abbrev pub path_free : Path → Bool
path_free [] = true
path_free (n ∷ ns) = not (is_rp n)

-- the same of one layer of an expression, where it is known of its parts
abbrev pub expr_free_step : P4Expr-F Bool → Bool
expr_free_step (open_expr.Choice at test first second) = test && first && second
expr_free_step (open_expr.Binary at op left right) = left && right
expr_free_step (open_expr.Unary at op operand) = operand
expr_free_step (open_expr.Cast at t operand) = operand
expr_free_step (open_expr.Slice at operand slice) = operand
expr_free_step (open_expr.Number at number) = true
expr_free_step (open_expr.True at) = true
expr_free_step (open_expr.False at) = true
expr_free_step (open_expr.Path at path) = path_free (names path)
expr_free_step (open_expr.IsValid at path) = path_free (names path)

-- no path of an expression begins with `rp`
abbrev pub expr_free : P4Expr → Bool
expr_free = fold-P4Expr Bool expr_free_step

-- no path of an expression that may be missing begins with `rp`
abbrev pub option_free : Option P4Expr → Bool
option_free None = true
option_free (Some e) = expr_free e

-- no path of these expressions begins with `rp`
abbrev pub exprs_free : List P4Expr → Bool
exprs_free [] = true
exprs_free (e ∷ es) = expr_free e && exprs_free es

-- a condition doesn't name `rp`; an applied table is judged where it is declared
abbrev pub cond_free : P4Cond → Bool
cond_free (cond.Expr e) = expr_free e
cond_free (cond.Apply at negated name outcome) = true

-- ---- statements

-- Which calls reach cells, and which tables have an action that does.
pub record Reach : Type 0 where
  pub calls : Name → Bool
  pub applies : Name → Bool

-- What a statement or a block is:
-- `free` where it doesn't name `rp`, `keyless` where no `flow_key` stands in it,
-- `calm` where it reaches neither a cell nor a `flow_key`,
-- and `tail` where, as the end of a tail block, it reaches cells only behind a `flow_key`, and behind one no other.
pub record Facts : Type 0 where
  pub is_key : Bool
  pub free : Bool
  pub keyless : Bool
  pub calm : Bool
  pub tail : Bool

-- a statement without statements in it, by whether it names no `rp` and reaches no cell
abbrev pub simple : Bool → Bool → Facts
simple free calm = record { is_key = false; free = free; keyless = true; calm = calm; tail = calm }

-- the facts of one layer of a statement, where they are known of its parts
abbrev pub stmt_facts_step : Reach → P4Stmt-F Facts Facts Facts → Facts
stmt_facts_step reach (layer.Block b) = record { is_key = false; free = b.free; keyless = b.keyless; calm = b.calm; tail = b.calm && b.keyless }
stmt_facts_step reach (layer.Var v) = simple (path_free (text v.name ∷ []) && option_free v.expr) true
stmt_facts_step reach (layer.Assign a) = simple (path_free (names a.left.path) && expr_free a.expr) true
stmt_facts_step reach (layer.Read r) = simple (path_free (names r.left.path) && option_free r.expr) false
stmt_facts_step reach (layer.Write w) = simple (expr_free w.expr && option_free w.second) false
stmt_facts_step reach (layer.Keystmt k) = record { is_key = true; free = expr_free k.expr; keyless = false; calm = false; tail = false }
stmt_facts_step reach (layer.Valid v) = simple (path_free (names v.path)) true
stmt_facts_step reach (layer.Apply a) = simple true (not (reach.applies (text a.name)))
stmt_facts_step reach (layer.Callstmt c) = simple (exprs_free c.args) (not (reach.calls (text c.name)))
stmt_facts_step reach (layer.If i) = i

-- none of these statements names `rp`
abbrev pub all_free : List Facts → Bool
all_free [] = true
all_free (f ∷ fs) = f.free && all_free fs

-- no `flow_key` stands in these statements
abbrev pub all_keyless : List Facts → Bool
all_keyless [] = true
all_keyless (f ∷ fs) = f.keyless && all_keyless fs

-- none of these statements reaches a cell or a `flow_key`
abbrev pub all_calm : List Facts → Bool
all_calm [] = true
all_calm (f ∷ fs) = f.calm && all_calm fs

-- the last statement of a tail block may be a branch with tail blocks
abbrev pub tail_or_calm : Facts → List Facts → Bool
tail_or_calm f [] = f.tail
tail_or_calm f (g ∷ gs) = f.calm && f.keyless

-- as a tail block, these statements reach cells only behind a `flow_key`, and behind one no other
abbrev pub all_tail : List Facts → Bool
all_tail [] = true
all_tail (f ∷ fs) = if f.is_key then all_keyless fs else tail_or_calm f fs && all_tail fs

-- the facts of a block, where they are known of its statements
abbrev pub block_facts_step : P4Block-F Facts Facts Facts → Facts
block_facts_step b = record { is_key = false; free = all_free b.stmts; keyless = all_keyless b.stmts; calm = all_calm b.stmts; tail = all_tail b.stmts }

-- the facts of an empty block
abbrev pub no_stmts : Facts
no_stmts = record { is_key = false; free = true; keyless = true; calm = true; tail = true }

-- a missing branch is as an empty block
abbrev pub or_no_stmts : Option Facts → Facts
or_no_stmts None = no_stmts
or_no_stmts (Some f) = f

-- a condition applies no table that reaches cells
abbrev pub cond_calm : Reach → P4Cond → Bool
cond_calm reach (cond.Expr e) = true
cond_calm reach (cond.Apply at negated name outcome) = not (reach.applies (text name))

-- the facts of a branch: those of both its blocks, and of its condition
abbrev pub if_facts_step : Reach → P4If-F Facts Facts Facts → Facts
if_facts_step reach i =
    let other = or_no_stmts i.else_ in
    record {
      is_key = false;
      free = cond_free i.cond && i.then.free && other.free;
      keyless = i.then.keyless && other.keyless;
      calm = cond_calm reach i.cond && i.then.calm && other.calm;
      tail = cond_calm reach i.cond && i.then.tail && other.tail;
    }

-- the facts of a statement
abbrev pub stmt_facts : Reach → P4Stmt → Facts
stmt_facts reach = fold-P4Stmt Facts Facts Facts (stmt_facts_step reach) block_facts_step (if_facts_step reach)

-- the facts of a block
abbrev pub block_facts : Reach → P4Block → Facts
block_facts reach = fold-P4Block Facts Facts Facts (stmt_facts_step reach) block_facts_step (if_facts_step reach)

-- the facts of a branch
abbrev pub if_facts : Reach → P4If → Facts
if_facts reach = fold-P4If Facts Facts Facts (stmt_facts_step reach) block_facts_step (if_facts_step reach)

-- ---- actions and tables

-- within an action nothing is called or applied
abbrev pub no_reach : Reach
no_reach = record { calls = λ name. false; applies = λ name. false }

-- whether the action of this name reaches cells
abbrev pub calls : List P4Local → Name → Bool
calls [] name = false
calls (local.Action a ∷ ls) name = if bytes_eq (text a.name) name then not (block_facts no_reach a.block).calm else calls ls name
calls (l ∷ ls) name = calls ls name

-- whether an action of these entries reaches cells
abbrev pub entries_call : List P4Local → List P4Entry → Bool
entries_call actions [] = false
entries_call actions (e ∷ es) = calls actions (text e.call.name) || entries_call actions es

-- whether the default action, if there is one, reaches cells
abbrev pub default_calls : List P4Local → Option P4Default → Bool
default_calls actions None = false
default_calls actions (Some d) = calls actions (text d.call.name)

-- whether an action of the table of this name reaches cells
abbrev pub applies : List P4Local → List P4Local → Name → Bool
applies actions [] name = false
applies actions (local.Table t ∷ ls) name =
    if bytes_eq (text t.name) name then entries_call actions (entries_of t.entries) || default_calls actions t.default else applies actions ls name
applies actions (l ∷ ls) name = applies actions ls name

-- which actions and tables of these declarations reach cells
abbrev pub reach_of : List P4Local → Reach
reach_of ls = record { calls = calls ls; applies = applies ls ls }

-- none of these parameters is called `rp`
abbrev pub fields_free : List P4Field → Bool
fields_free [] = true
fields_free (f ∷ fs) = not (is_rp (text f.name)) && fields_free fs

-- no key of a table names `rp`
abbrev pub keys_free : List P4Key → Bool
keys_free [] = true
keys_free (k ∷ ks) = expr_free k.expr && keys_free ks

-- no argument of these entries names `rp`
abbrev pub entries_free : List P4Entry → Bool
entries_free [] = true
entries_free (e ∷ es) = exprs_free e.call.args && entries_free es

-- no argument of the default action, if there is one, names `rp`
abbrev pub default_free : Option P4Default → Bool
default_free None = true
default_free (Some d) = exprs_free d.call.args

-- a declaration of the control doesn't name `rp`
abbrev pub local_free : P4Local → Bool
local_free (local.Const c) = true
local_free (local.Var v) = path_free (text v.name ∷ []) && option_free v.expr
local_free (local.Cell c) = true
local_free (local.Action a) = not (is_rp (text a.name)) && fields_free a.params && (block_facts no_reach a.block).free
local_free (local.Table t) = keys_free t.keys.keys && entries_free (entries_of t.entries) && default_free t.default

-- none of these declarations names `rp`
abbrev pub locals_free : List P4Local → Bool
locals_free [] = true
locals_free (l ∷ ls) = local_free l && locals_free ls

-- no `flow_key` stands in an action
abbrev pub actions_keyless : List P4Local → Bool
actions_keyless [] = true
actions_keyless (local.Action a ∷ ls) = (block_facts no_reach a.block).keyless && actions_keyless ls
actions_keyless (l ∷ ls) = actions_keyless ls

-- ---- programs

-- a step of a parser's state doesn't name `rp`
abbrev pub step_free : P4Step → Bool
step_free (step.Extract e) = path_free (names e.path)
step_free (step.Assign a) = path_free (names a.left.path) && expr_free a.expr

-- none of these steps names `rp`
abbrev pub steps_free : List P4Step → Bool
steps_free [] = true
steps_free (s ∷ ss) = step_free s && steps_free ss

-- what a state goes on by doesn't name `rp`
abbrev pub target_free : P4Target → Bool
target_free (target.Name at name) = true
target_free (target.Select at es cs) = exprs_free es

-- no state of the parser names `rp`
abbrev pub states_free : List P4State → Bool
states_free [] = true
states_free (s ∷ ss) = steps_free s.steps && target_free s.target && states_free ss

-- no header that is emitted is of `rp`
abbrev pub emits_free : List P4Emit → Bool
emits_free [] = true
emits_free (e ∷ es) = path_free (names e.path) && emits_free es

-- `rp` is named nowhere
abbrev pub program_free : P4Program → Bool
program_free p =
    states_free p.parser.states && not (is_rp (text p.ingress.std)) && locals_free p.ingress.locals
    && (block_facts (reach_of p.ingress.locals) p.ingress.block).free && emits_free p.deparser.emits

-- cells are reached only behind a `flow_key` that stands in a tail block
abbrev pub program_keyed : P4Program → Bool
program_keyed p = actions_keyless p.ingress.locals && (block_facts (reach_of p.ingress.locals) p.ingress.block).tail

-- there is no fourth parameter: the program is one before its rewriting
abbrev pub is_source : Option P4Param → Bool
is_source None = true
is_source (Some rp) = false

-- What a checked source is, as far as the laws rest on it: it has no fourth parameter, at most 256 cells,
-- doesn't name `rp`, and reaches cells only where a flow's key is known.
pub record IsSound (p : P4Program) : Type 0 where
  pub source : p.ingress.rp ≡ None
  pub few : cell_count p ≤ 256
  pub free : program_free p ≡ true
  pub keyed : program_keyed p ≡ true

-- the same as a test
abbrev pub sound : P4Program → Bool
sound p = is_source p.ingress.rp && nat_le (cell_count p) 256 && program_free p && program_keyed p
