-- Statements, and declarations of constants and variables: the scope behind them, and the tree with the widths of its literals.
use Rattle.std.specs.Prelude.{ℕ, ◌%◌, Bool, true, false, not, ◌&&◌, ◌==◌, cond, List, [], ◌∷◌, length, Option, Some, None, is_some}
use Rattle.std.specs.Option.{option_map_or}
use Rattle.rp_base.specs.declared.refused.Why.TheVariants as why
use Rattle.p4_ast.specs.declared.name.P4Name.{P4Name}
use Rattle.p4_ast.specs.declared.declaration.P4Type.{P4Type}
use Rattle.p4_ast.specs.declared.declaration.P4Const.{P4Const}
use Rattle.p4_ast.specs.declared.expression.P4Expr.{P4Expr}
use Rattle.p4_ast.specs.declared.control.P4Var.{P4Var}
use Rattle.p4_ast.specs.declared.statement.P4Read.{P4Read}
use Rattle.p4_ast.specs.declared.statement.P4Write.{P4Write}
use Rattle.p4_ast.specs.declared.statement.P4Keystmt.{P4Keystmt}
use Rattle.p4_ast.specs.declared.statement.P4Callstmt.{P4Callstmt}
use Rattle.p4_ast.specs.declared.statement.P4Valid.{P4Valid}
use Rattle.p4_ast.specs.declared.statement.P4Apply.{P4Apply}
use Rattle.p4_ast.specs.declared.statement.P4Cond.{P4Cond}
use Rattle.p4_ast.specs.declared.statement.P4Cond.TheVariants as condition
use Rattle.p4_ast.specs.declared.statement.P4Stmt.{P4Stmt, fold-P4Stmt}
use Rattle.p4_ast.specs.declared.statement.P4Stmt.TheOpen as layer
use Rattle.p4_ast.specs.declared.statement.P4Stmt.TheOpen.{P4Stmt-F, P4Block-F, P4If-F}
use Rattle.p4_ast.specs.declared.statement.P4Stmt.TheVariants as stmt
use Rattle.p4_ast.specs.declared.statement.P4Block.{P4Block, fold-P4Block, roll-P4Block}
use Rattle.p4_ast.specs.declared.statement.P4If.{P4If, fold-P4If, roll-P4If}
use Rattle.p4_scope.specs.declared.kind.Kind.{Kind}
use Rattle.p4_scope.specs.declared.kind.Kind.TheVariants as kind
use Rattle.p4_typing.specs.declared.form.Form.{Form}
use Rattle.p4_typing.specs.declared.form.Form.TheVariants as form
use Rattle.p4_scope.specs.declared.kind.Value.{Value}
use Rattle.p4_scope.specs.declared.kind.Value.TheVariants as value
use Rattle.p4_scope.specs.declared.thing.Thing.{Thing}
use Rattle.p4_scope.specs.declared.thing.Thing.TheVariants as thing
use Rattle.p4_scope.specs.declared.thing.Site.{Site}
use Rattle.p4_scope.specs.declared.thing.Site.TheVariants as site
use Rattle.p4_typing.specs.declared.part.Typed.{Typed}
use Rattle.p4_scope.specs.Faults.{Fault, first_of, fault, fault_if}
use Rattle.p4_scope.specs.Scopes.{Scope, note, find, declare, leave, must_be, onward}
use Rattle.p4_scope.specs.Types.{type_place, type_kind, plain_kind}
use Rattle.p4_scope.specs.Paths.{header_path}
use Rattle.p4_typing.specs.Values.{value_of, strange}
use Rattle.p4_typing.specs.Expressions.{typed, at_place, bits_alone, form_by, form_of, left_form}
use Rattle.p4_typing.specs.Calls.{maybe_at, assign, args}
use Rattle.p4_scope.specs.FlowKeys.{key_fault, behind_key, in_block, in_branch, cell_used, is_action, is_table, params_of, called, applied}

-- ---- constants and variables

-- the value of a constant of this kind, where it has one
abbrev pub kept_value : Kind → Option Value → Option Value
kept_value (kind.Bits w) (Some (value.Bits n v)) = cond (w == v) (Some (value.Bits n v)) None
kept_value kind.Bool (Some (value.Bool b)) = Some (value.Bool b)
kept_value k v = None

-- a constant, behind which its name is visible
abbrev pub const_ : P4Const → Scope → Scope × P4Const
const_ c s =
    let k : Fault × Kind = plain_kind c.at c.type_ s in
    let t : Typed = at_place (form_of k.1) c.expr s in
    let odd : Fault = option_map_or (fault why.Kind) (strange c.expr s) None in
    let v : Option Value = kept_value k.1 (value_of t.expr s) in
    (declare c.name (thing.Const k.1 v) (note (first_of k.0 (first_of t.fault odd)) s), record c { expr = t.expr })

-- a variable, behind which its name is visible
abbrev pub var : P4Var → Scope → Scope × P4Var
var v s =
    let k : Fault × Kind = plain_kind v.at v.type_ s in
    let e : Fault × Option P4Expr = maybe_at (form_of k.1) v.expr s in
    (declare v.name (thing.Var k.1) (note (first_of k.0 e.0) s), record v { expr = e.1 })

-- ---- reads and writes of cells

-- whether it is a cell that is used so: an array with an index, another without
abbrev pub is_cell : Bool → Option Thing → Bool
is_cell indexed (Some (thing.Cell k)) = not indexed
is_cell indexed (Some (thing.Array k)) = indexed
is_cell indexed t = false

-- what the first argument of a read or write must be, where an index is written or not: without one, the value that is written
abbrev pub first_form : Bool → Option Thing → Form
first_form true (Some (thing.Array k)) = form.Bits 16
first_form false (Some (thing.Cell k)) = form_of k
first_form indexed t = form.Failed

-- what the second argument of a write must be
abbrev pub second_form : Option Thing → Form
second_form (Some (thing.Array k)) = form_of k
second_form t = form.Failed

-- what a cell holds
abbrev pub cell_form : Option Thing → Form
cell_form (Some (thing.Cell k)) = form_of k
cell_form (Some (thing.Array k)) = form_of k
cell_form t = form.Failed

-- what a cast makes of a read: to bool it fails at the read, to what is neither bits nor bool at the type
abbrev pub read_kind : ℕ → ℕ → Fault → Kind → Fault × Form
read_kind at type_at f kind.Bool = (first_of f (fault why.Kind at), form.Failed)
read_kind at type_at f k = form_by type_at f k

-- what a read gives: its cast, or else the cell
abbrev pub read_form : ℕ → Option P4Type → Option Thing → Scope → Fault × Form
read_form at None t s = (None, cell_form t)
read_form at (Some c) t s =
    let k : Fault × Kind = type_kind c s in
    read_kind at (type_place c) k.0 k.1

-- a read at this place that doesn't suit its left side
abbrev pub suits : ℕ → Form → Form → Fault
suits at (form.Bits w) (form.Bits v) = fault_if (not (w == v)) why.Width at
suits at form.Bool (form.Bits v) = fault why.Kind at
suits at l r = None

-- a read of a cell
abbrev pub read : P4Read → Scope → Scope × P4Read
read r s =
    let t : Option Thing = find r.name.text s in
    let l : Fault × Form = left_form r.left s in
    let k : Fault × Form = read_form r.at r.type_ t s in
    let named : Fault = must_be (is_cell (is_some r.expr) t) r.name t in
    let e : Fault × Option P4Expr = maybe_at (first_form true t) r.expr s in
    (cell_used r.at t (note (first_of l.0 (first_of k.0 (first_of named (first_of e.0 (suits r.at l.1 k.1))))) s), record r { expr = e.1 })

-- a write of a cell
abbrev pub write : P4Write → Scope → Scope × P4Write
write w s =
    let t : Option Thing = find w.name.text s in
    let named : Fault = must_be (is_cell (is_some w.second) t) w.name t in
    let x : Typed = at_place (first_form (is_some w.second) t) w.expr s in
    let y : Fault × Option P4Expr = maybe_at (second_form t) w.second s in
    (cell_used w.at t (note (first_of named (first_of x.fault y.0)) s), record w { expr = x.expr; second = y.1 })

-- ---- flow keys

-- whole bytes, or a fault at this place
abbrev pub key_width : ℕ → Form → Fault
key_width at (form.Bits w) = fault_if (not (w % 8 == 0)) why.Width at
key_width at k = None

-- a flow key, behind which its body stands
abbrev pub keystmt : P4Keystmt → Scope → Scope × P4Keystmt
keystmt k s =
    let t : Typed = bits_alone (typed k.expr s) in
    let found : Fault = first_of t.fault (first_of (key_width k.at t.form) (key_fault k.at s.site)) in
    (record (note found s) { site = behind_key s.site }, record k { expr = t.expr })

-- ---- calls

-- in an action nothing is called and nothing applied
abbrev pub in_control : Site → Bool
in_control site.Action = false
in_control p = true

-- a call of an action
abbrev pub callstmt : P4Callstmt → Scope → Scope × P4Callstmt
callstmt c s =
    let t : Option Thing = find c.name.text s in
    let named : Fault = must_be (is_action t && in_control s.site) c.name t in
    let r : Fault × List P4Expr = args c.name (params_of t s) c.args s in
    (called c.at t (note (first_of named r.0) s), record c { args = r.1 })

-- the statement at this place applies this table
abbrev pub apply : ℕ → P4Name → Scope → Scope
apply at x s =
    let t : Option Thing = find x.text s in
    applied at t (note (must_be (is_table t && in_control s.site) x t) s)

-- the condition of the `if` at this place
abbrev pub cond_ : ℕ → P4Cond → Scope → Scope × P4Cond
cond_ at (condition.Expr e) s =
    let t : Typed = at_place form.Bool e s in
    (note t.fault s, condition.Expr t.expr)
cond_ at (condition.Apply apply_at negated x outcome) s = (apply at x s, condition.Apply apply_at negated x outcome)

-- ---- statements and blocks

-- a `setValid` or `setInvalid`
abbrev pub valid : P4Valid → Scope → Scope × P4Valid
valid v s = (note (header_path v.path s) s, v)

-- a statement that applies a table
abbrev pub application : P4Apply → Scope → Scope × P4Apply
application a s = (apply a.at a.name s, a)

-- How a part of a block is walked: the scope behind it, and the part. Of a statement and an `if` it counts whether it is the last of its block.
abbrev pub WalkStmt : Type 0
WalkStmt = Bool → Scope → Scope × P4Stmt

-- a block
abbrev pub WalkBlock : Type 0
WalkBlock = Scope → Scope × P4Block

-- an `if`
abbrev pub WalkIf : Type 0
WalkIf = Bool → Scope → Scope × P4If

-- a part as one of several kinds
abbrev pub wrapped : {A B : Type 0} → (A → B) → Scope × A → Scope × B
wrapped f r = (r.0, f r.1)

-- a part that changes nothing but the first fault
abbrev pub noted : {A : Type 0} → Fault × A → Scope → Scope × A
noted r s = (note r.0 s, r.1)

-- a part that stands at a place of its own
abbrev pub within : {A : Type 0} → Site → (Scope → Scope × A) → Scope → Scope × A
within {A = A} p walk s =
    let r : Scope × A = walk (record s { site = p }) in
    (record r.0 { site = s.site }, r.1)

-- one statement
abbrev pub stmt_step : P4Stmt-F WalkStmt WalkBlock WalkIf → WalkStmt
stmt_step (layer.Block b) last s = wrapped stmt.Block (within (in_block s.site) b s)
stmt_step (layer.Var v) last s = wrapped stmt.Var (var v s)
stmt_step (layer.Assign a) last s = wrapped stmt.Assign (noted (assign a s) s)
stmt_step (layer.Read r) last s = wrapped stmt.Read (read r s)
stmt_step (layer.Write w) last s = wrapped stmt.Write (write w s)
stmt_step (layer.Keystmt k) last s = wrapped stmt.Keystmt (keystmt k s)
stmt_step (layer.Valid v) last s = wrapped stmt.Valid (valid v s)
stmt_step (layer.Apply a) last s = wrapped stmt.Apply (application a s)
stmt_step (layer.Callstmt c) last s = wrapped stmt.Callstmt (callstmt c s)
stmt_step (layer.If i) last s = wrapped stmt.If (i last s)

-- statements one after the other, behind those that are done; the last is the one behind which nothing follows
abbrev pub stmts : List WalkStmt → Scope → List P4Stmt → Scope × List P4Stmt
stmts [] s done = (s, done)
stmts (x ∷ xs) s done = onward (stmts xs) done (x (length xs == 0) s)

-- a block, behind which its names are forgotten
abbrev pub block_step : P4Block-F WalkStmt WalkBlock WalkIf → WalkBlock
block_step b s =
    let r : Scope × List P4Stmt = stmts b.stmts s [] in
    (leave s r.0, roll-P4Block (record { at = b.at; stmts = r.1 }))

-- the block behind `else`
abbrev pub else_block : Site → Option WalkBlock → Scope → Scope × Option P4Block
else_block p None s = (s, None)
else_block p (Some b) s = wrapped Some (within p b s)

-- an `if`
abbrev pub if_step : P4If-F WalkStmt WalkBlock WalkIf → WalkIf
if_step i last s =
    let p : Site = in_branch last s.site in
    let c : Scope × P4Cond = cond_ i.at i.cond s in
    let t : Scope × P4Block = within p i.then c.0 in
    let e : Scope × Option P4Block = else_block p i.else_ t.0 in
    (e.0, roll-P4If (record { at = i.at; cond = c.1; then = t.1; else_ = e.1 }))

-- a block
abbrev pub block : P4Block → WalkBlock
block = fold-P4Block WalkStmt WalkBlock WalkIf stmt_step block_step if_step

-- a statement, the last of its block or not
abbrev pub statement : P4Stmt → WalkStmt
statement = fold-P4Stmt WalkStmt WalkBlock WalkIf stmt_step block_step if_step

-- an `if`, the last of its block or not
abbrev pub if_ : P4If → WalkIf
if_ = fold-P4If WalkStmt WalkBlock WalkIf stmt_step block_step if_step
