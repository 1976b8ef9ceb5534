-- What statements do to a run.
use Rattle.std.specs.Prelude.{ℕ, zero, suc, ◌+◌, ◌/◌, ◌%◌, ◌^◌, min, max, Bool, true, false, not, List, [], ◌∷◌, map, Option, Some, None, if◌then◌else◌, nat_lt, set, slice_index}
use Rattle.p4_ast.specs.declared.expression.P4Expr.{P4Expr}
use Rattle.p4_ast.specs.declared.declaration.P4Type.{P4Type}
use Rattle.p4_ast.specs.declared.control.P4Var.{P4Var}
use Rattle.p4_ast.specs.declared.statement.P4Read.{P4Read}
use Rattle.p4_ast.specs.declared.statement.P4Write.{P4Write}
use Rattle.p4_ast.specs.declared.statement.P4Cond.{P4Cond}
use Rattle.p4_ast.specs.declared.statement.P4Cond.TheVariants as cond
use Rattle.p4_ast.specs.declared.statement.P4Outcome.{P4Outcome}
use Rattle.p4_ast.specs.declared.statement.P4Outcome.TheVariants as outcome
use Rattle.p4_ast.specs.declared.statement.P4Stmt.{P4Stmt, fold-P4Stmt}
use Rattle.p4_ast.specs.declared.statement.P4Stmt.TheOpen as layer
use Rattle.p4_ast.specs.declared.statement.P4Stmt.TheOpen.{P4Stmt-F, P4Block-F, P4If-F}
use Rattle.p4_ast.specs.declared.statement.P4Block.{P4Block, fold-P4Block}
use Rattle.p4_ast.specs.declared.statement.P4If.{P4If, fold-P4If}
use Rattle.rp_app.specs.Application.{with_cell}
use Rattle.app_data.specs.declared.run.Run.{Run}
use Rattle.app_data.specs.declared.value.Value.{Value}
use Rattle.app_meaning.specs.Values.{cut, width_of, holds}
use Rattle.app_data.specs.declared.scope.Register.{Register}
use Rattle.app_meaning.specs.Slots.{Name, Scope, text, names, named_register, type_width, slot_of}
use Rattle.app_meaning.specs.Expressions.{eval}
use Rattle.app_meaning.specs.Assigning.{set_slot, assign, validate}

-- a run with other values
abbrev pub with_values : Run → List Value → Run
with_values run values = record { values = values; cells = run.cells; delta = run.delta; key = run.key }

-- what names stand for, and what calls and tables do
pub record Context : Type 0 where
  pub scope : Scope
  pub call : Name → List Value → Run → Run
  pub apply : Name → Run → Run × Bool

-- ---- variables

-- a variable's first number
abbrev pub initial : Option P4Expr → Scope → List Value → ℕ
initial None sc values = 0
initial (Some e) sc values = (eval e sc values).number

-- a variable is declared
abbrev pub declare : Scope → P4Var → List Value → List Value
declare sc v values =
    set_slot values (slot_of sc (text v.name ∷ [])) (cut (type_width sc.types v.type_) (initial v.expr sc values))

-- ---- cells

-- the number of the cell that an array's member is
abbrev pub member : ℕ → ℕ → ℕ → Option ℕ
member first size i = if nat_lt i size then Some (first + i) else None

-- the number of a cell, if there is one: of an array the member at the index
abbrev pub cell_of : ℕ → Option ℕ → Option ℕ → Option ℕ
cell_of first None index = Some first
cell_of first (Some size) None = None
cell_of first (Some size) (Some i) = member first size i

-- the number of an index, where one is written
abbrev pub optional_number : Option P4Expr → Scope → List Value → Option ℕ
optional_number None sc values = None
optional_number (Some e) sc values = Some (eval e sc values).number

-- the number that a cell holds, 0 where there is none
abbrev pub cell_number : List ℕ → Option ℕ → ℕ
cell_number cells None = 0
cell_number cells (Some i) = slice_index cells i

-- the width of a written cast, or else of the cell
abbrev pub read_width : Scope → Register → Option P4Type → ℕ
read_width sc g None = width_of g.width
read_width sc g (Some t) = type_width sc.types t

-- the number that a read gives
abbrev pub read_number : Scope → P4Read → Register → Run → ℕ
read_number sc r g run =
    cell_number run.cells (cell_of g.first g.size (optional_number r.expr sc run.values)) % 2 ^ read_width sc g r.type_

-- a read, nothing where there are no such cells
abbrev pub read_from : Scope → P4Read → Option Register → Run → Run
read_from sc r None run = run
read_from sc r (Some g) run = with_values run (assign sc r.left (read_number sc r g run) run.values)

-- a read
abbrev pub run_read : Scope → P4Read → Run → Run
run_read sc r run = read_from sc r (named_register (text r.name) sc.registers) run

-- a cell gets a number
abbrev pub store : Option ℕ → ℕ → Run → Run
store None n run = run
store (Some i) n run = record { values = run.values; cells = set run.cells i n; delta = with_cell run.delta i n; key = run.key }

-- a write of a value to one cell, or by an index and a value to a member of an array
abbrev pub write_cell : Scope → ℕ → Option ℕ → P4Expr → Option P4Expr → Run → Run
write_cell sc first None e second run = store (Some first) ((eval e sc run.values).number % 2 ^ 64) run
write_cell sc first (Some size) e None run = run
write_cell sc first (Some size) e (Some v) run =
    store (member first size (eval e sc run.values).number) ((eval v sc run.values).number % 2 ^ 64) run

-- a write, nothing where there are no such cells
abbrev pub write_to : Scope → P4Write → Option Register → Run → Run
write_to sc w None run = run
write_to sc w (Some g) run = write_cell sc g.first g.size w.expr w.second run

-- a write
abbrev pub run_write : Scope → P4Write → Run → Run
run_write sc w run = write_to sc w (named_register (text w.name) sc.registers) run

-- ---- the key

-- so many bytes of a number, the highest first
abbrev pub big_endian : ℕ → ℕ → List ℕ
big_endian zero n = []
big_endian (suc k) n = n / 256 ^ k % 256 ∷ big_endian k n

-- the bytes of a value, 1 to 16
abbrev pub key_bytes : Value → List ℕ
key_bytes v = big_endian (min 16 (max 1 ((v.width + 7) / 8))) v.number

-- a run with a key
abbrev pub with_key : Run → List ℕ → Run
with_key run key = record { values = run.values; cells = run.cells; delta = run.delta; key = Some key }

-- ---- statements

-- the values of some expressions
abbrev pub values_of : List P4Expr → Scope → List Value → List Value
values_of es sc values = map (λ e. eval e sc values) es

-- whether a table's outcome is the one that is asked for
abbrev pub is_outcome : P4Outcome → Bool → Bool
is_outcome outcome.Hit hit = hit
is_outcome outcome.Miss hit = not hit

-- the other answer where a condition is negated
abbrev pub negated_if : Bool → Bool → Bool
negated_if true b = not b
negated_if false b = b

-- the run after a condition, and whether it holds
abbrev pub test : P4Cond → Context → Run → Run × Bool
test (cond.Expr e) ctx run = (run, holds (eval e ctx.scope run.values))
test (cond.Apply at negated name outcome) ctx run =
    let applied = ctx.apply (text name) run in (applied.0, negated_if negated (is_outcome outcome applied.1))

-- what a statement does in a context
abbrev pub Meaning : Type 0
Meaning = Context → Run → Run

-- one after the other
abbrev pub in_turn : List Meaning → Meaning
in_turn [] ctx run = run
in_turn (f ∷ fs) ctx run = in_turn fs ctx (f ctx run)

-- a branch that may be missing
abbrev pub or_nothing : Option Meaning → Meaning
or_nothing None ctx run = run
or_nothing (Some f) ctx run = f ctx run

-- one of two branches, by a test
abbrev pub branch : Meaning → Option Meaning → Context → Run × Bool → Run
branch first second ctx tested = if tested.1 then first ctx tested.0 else or_nothing second ctx tested.0

-- a statement, where the runs of its blocks are given
abbrev pub stmt_step : P4Stmt-F Meaning Meaning Meaning → Meaning
stmt_step (layer.Block b) ctx run = b ctx run
stmt_step (layer.Var v) ctx run = with_values run (declare ctx.scope v run.values)
stmt_step (layer.Assign a) ctx run = with_values run (assign ctx.scope a.left (eval a.expr ctx.scope run.values).number run.values)
stmt_step (layer.Read r) ctx run = run_read ctx.scope r run
stmt_step (layer.Write w) ctx run = run_write ctx.scope w run
stmt_step (layer.Keystmt k) ctx run = with_key run (key_bytes (eval k.expr ctx.scope run.values))
stmt_step (layer.Valid v) ctx run = with_values run (validate ctx.scope v.validity (slot_of ctx.scope (names v.path)) run.values)
stmt_step (layer.Apply a) ctx run = (ctx.apply (text a.name) run).0
stmt_step (layer.Callstmt c) ctx run = ctx.call (text c.name) (values_of c.args ctx.scope run.values) run
stmt_step (layer.If i) ctx run = i ctx run

-- a block, where the runs of its statements are given
abbrev pub block_step : P4Block-F Meaning Meaning Meaning → Meaning
block_step b = in_turn b.stmts

-- an `if`, where the runs of its branches are given
abbrev pub if_step : P4If-F Meaning Meaning Meaning → Meaning
if_step i ctx run = branch i.then i.else_ ctx (test i.cond ctx run)

-- the run after a statement
abbrev pub run_stmt : P4Stmt → Meaning
run_stmt = fold-P4Stmt Meaning Meaning Meaning stmt_step block_step if_step

-- the run after a block
abbrev pub run_block : P4Block → Meaning
run_block = fold-P4Block Meaning Meaning Meaning stmt_step block_step if_step

-- the run after an `if`
abbrev pub run_if : P4If → Meaning
run_if = fold-P4If Meaning Meaning Meaning stmt_step block_step if_step
