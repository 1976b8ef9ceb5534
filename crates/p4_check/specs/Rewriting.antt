-- The rewritten tree of a program.
use Rattle.std.specs.Prelude.{ℕ, Bool, true, false, List, [], ◌∷◌, ◌++◌, Option, Some, None, if◌then◌else◌, codes}
use Rattle.p4_ast.specs.declared.name.P4Name.{P4Name}
use Rattle.p4_ast.specs.declared.name.P4Path.{P4Path}
use Rattle.p4_ast.specs.declared.name.P4Left.{P4Left}
use Rattle.p4_ast.specs.declared.declaration.P4Type.{P4Type}
use Rattle.p4_ast.specs.declared.declaration.P4Type.TheVariants as type
use Rattle.p4_ast.specs.declared.expression.P4Expr.{P4Expr}
use Rattle.p4_ast.specs.declared.expression.P4Expr.TheVariants as expr
use Rattle.p4_ast.specs.declared.expression.P4BinaryOp.TheVariants as binary
use Rattle.p4_ast.specs.declared.control.P4Local.{P4Local}
use Rattle.p4_ast.specs.declared.control.P4Local.TheVariants as local
use Rattle.p4_ast.specs.declared.control.P4Action.{P4Action}
use Rattle.p4_ast.specs.declared.control.P4Ingress.{P4Ingress}
use Rattle.p4_ast.specs.declared.statement.P4Read.{P4Read}
use Rattle.p4_ast.specs.declared.statement.P4Write.{P4Write}
use Rattle.p4_ast.specs.declared.statement.P4Cond.TheVariants as cond
use Rattle.p4_ast.specs.declared.statement.P4Stmt.{P4Stmt, fold-P4Stmt}
use Rattle.p4_ast.specs.declared.statement.P4Stmt.TheOpen as layer
use Rattle.p4_ast.specs.declared.statement.P4Stmt.TheOpen.{P4Stmt-F, P4Block-F, P4If-F}
use Rattle.p4_ast.specs.declared.statement.P4Stmt.TheVariants as stmt
use Rattle.p4_ast.specs.declared.statement.P4Block.{P4Block, fold-P4Block, roll-P4Block}
use Rattle.p4_ast.specs.declared.statement.P4If.{P4If, fold-P4If, roll-P4If}
use Rattle.p4_ast.specs.declared.program.P4Program.{P4Program}
use Rattle.app_data.specs.declared.scope.Register.{Register}
use Rattle.app_data.specs.declared.scope.TypeSlots.{TypeSlots}
use Rattle.app_meaning.specs.Slots.{Name, text, named_register, type_width}
use Rattle.app_meaning.specs.Programs.{locals, registers_from}

-- ---- parts of new statements; they have no place in the source, so 0

-- a name of these bytes
abbrev pub name : Name → P4Name
name t = record { at = 0; text = t }

-- a number of so many bits
abbrev pub number : ℕ → ℕ → P4Expr
number width n = expr.Number 0 (record { at = 0; value = n; width = Some width })

-- the type of so many bits
abbrev pub bit : ℕ → P4Type
bit width = type.Bit 0 (record { at = 0; value = width; width = None })

-- `rp.field`
abbrev pub rp_path : Name → P4Path
rp_path field = record { at = 0; names = name (codes "rp") ∷ name field ∷ [] }

-- `rp.field = 1w1;`
abbrev pub set_rp : Name → P4Stmt
set_rp field = stmt.Assign (record { at = 0; left = record { at = 0; path = rp_path field; slice = None }; expr = number 1 1 })

-- a block of these statements
abbrev pub block : List P4Stmt → P4Block
block ss = roll-P4Block (record { at = 0; stmts = ss })

-- a branch by an expression
abbrev pub if_so : P4Expr → List P4Stmt → Option P4Block → P4Stmt
if_so e ss else_ = stmt.If (roll-P4If (record { at = 0; cond = cond.Expr e; then = block ss; else_ = else_ }))

-- the body of a `flow_key` runs under the lease alone; else the verdict is ASK
abbrev pub held_only : List P4Stmt → P4Stmt
held_only ss =
    if_so (expr.Binary 0 binary.Equal (expr.Path 0 (rp_path (codes "held"))) (number 1 1)) ss (Some (block (set_rp (codes "verdict") ∷ [])))

-- ---- reads and writes

-- the index of an array's member among all cells
abbrev pub member_index : ℕ → P4Expr → P4Expr
member_index first i = expr.Binary 0 binary.Plus (number 16 first) i

-- whether an index is within an array
abbrev pub is_within : ℕ → P4Expr → P4Expr
is_within size i = expr.Binary 0 binary.Less i (number 16 size)

-- a read of the cell at an index among all cells, cut to a type
abbrev pub cells_read : P4Left → P4Type → P4Expr → P4Stmt
cells_read left t i = stmt.Read (record { at = 0; left = left; type_ = Some t; name = name (codes "rp_cells"); expr = Some i })

-- a write of a value to the cell at an index among all cells, which makes the run dirty
abbrev pub cells_written : P4Expr → P4Expr → List P4Stmt
cells_written i v =
    stmt.Write (record { at = 0; name = name (codes "rp_cells"); expr = i; second = Some (expr.Cast 0 (bit 64) v) })
    ∷ set_rp (codes "dirty") ∷ []

-- a variable gets 0
abbrev pub assigned_zero : P4Left → ℕ → P4Stmt
assigned_zero left width = stmt.Assign (record { at = 0; left = left; expr = number width 0 })

-- the type of a written cast, or else of the cell
abbrev pub cast_type : Option P4Type → ℕ → P4Type
cast_type None width = bit width
cast_type (Some t) width = t

-- a read of one cell, or of an array's member where the array has it
abbrev pub read_of : List TypeSlots → P4Left → P4Type → ℕ → Option ℕ → Option P4Expr → P4Stmt
read_of types left t first None i = cells_read left t (number 16 first)
read_of types left t first (Some size) None = assigned_zero left (type_width types t)
read_of types left t first (Some size) (Some i) =
    if_so (is_within size i) (cells_read left t (member_index first i) ∷ []) (Some (block (assigned_zero left (type_width types t) ∷ [])))

-- a write of one cell, or of an array's member where the array has it
abbrev pub write_of : ℕ → Option ℕ → P4Expr → Option P4Expr → List P4Stmt
write_of first None v second = cells_written (number 16 first) v
write_of first (Some size) i None = []
write_of first (Some size) i (Some v) = if_so (is_within size i) (cells_written (member_index first i) v) None ∷ []

-- what a read becomes
abbrev pub new_read : List TypeSlots → P4Read → Option Register → List P4Stmt
new_read types r None = []
new_read types r (Some g) = read_of types r.left (cast_type r.type_ g.width) g.first g.size r.expr ∷ []

-- what a write becomes
abbrev pub new_write : P4Write → Option Register → List P4Stmt
new_write w None = []
new_write w (Some g) = write_of g.first g.size w.expr w.second

-- ---- statements

-- the types and the cells of the source
pub record Source : Type 0 where
  pub types : List TypeSlots
  pub registers : List Register

-- what a statement becomes, and whether it is a `flow_key`
pub record Piece : Type 0 where
  pub is_key : Bool
  pub stmts : List P4Stmt

-- what a statement that isn't a `flow_key` becomes
abbrev pub plain_piece : List P4Stmt → Piece
plain_piece ss = record { is_key = false; stmts = ss }

-- a statement that becomes one statement
abbrev pub one_stmt : P4Stmt → Piece
one_stmt s = plain_piece (s ∷ [])

-- what a statement becomes, where its blocks are rewritten
abbrev pub stmt_rewrite : Source → P4Stmt-F Piece P4Block P4If → Piece
stmt_rewrite src (layer.Block b) = one_stmt (stmt.Block b)
stmt_rewrite src (layer.Var v) = one_stmt (stmt.Var v)
stmt_rewrite src (layer.Assign a) = one_stmt (stmt.Assign a)
stmt_rewrite src (layer.Read r) = plain_piece (new_read src.types r (named_register (text r.name) src.registers))
stmt_rewrite src (layer.Write w) = plain_piece (new_write w (named_register (text w.name) src.registers))
stmt_rewrite src (layer.Keystmt k) = record { is_key = true; stmts = stmt.Keystmt k ∷ [] }
stmt_rewrite src (layer.Valid v) = one_stmt (stmt.Valid v)
stmt_rewrite src (layer.Apply a) = one_stmt (stmt.Apply a)
stmt_rewrite src (layer.Callstmt c) = one_stmt (stmt.Callstmt c)
stmt_rewrite src (layer.If i) = one_stmt (stmt.If i)

-- the statements of a block; those behind a `flow_key` become a branch
abbrev pub joined : List Piece → List P4Stmt
joined [] = []
joined (p ∷ ps) = p.stmts ++ (if p.is_key then held_only (joined ps) ∷ [] else joined ps)

-- a block, where it is known what its statements become
abbrev pub block_rewrite : P4Block-F Piece P4Block P4If → P4Block
block_rewrite b = roll-P4Block (record { at = b.at; stmts = joined b.stmts })

-- a branch, where its blocks are rewritten
abbrev pub if_rewrite : P4If-F Piece P4Block P4If → P4If
if_rewrite i = roll-P4If (record { at = i.at; cond = i.cond; then = i.then; else_ = i.else_ })

-- what a statement becomes
abbrev pub rewrite_stmt : Source → P4Stmt → Piece
rewrite_stmt src = fold-P4Stmt Piece P4Block P4If (stmt_rewrite src) block_rewrite if_rewrite

-- the rewritten block
abbrev pub rewrite_block : Source → P4Block → P4Block
rewrite_block src = fold-P4Block Piece P4Block P4If (stmt_rewrite src) block_rewrite if_rewrite

-- the rewritten branch
abbrev pub rewrite_if : Source → P4If → P4If
rewrite_if src = fold-P4If Piece P4Block P4If (stmt_rewrite src) block_rewrite if_rewrite

-- ---- programs

-- an action with a rewritten block
abbrev pub rewrite_action : Source → P4Action → P4Action
rewrite_action src a = record { at = a.at; name = a.name; params = a.params; block = rewrite_block src a.block }

-- the declarations of cells go
abbrev pub rewrite_locals : Source → List P4Local → List P4Local
rewrite_locals src [] = []
rewrite_locals src (local.Const c ∷ ls) = local.Const c ∷ rewrite_locals src ls
rewrite_locals src (local.Var v ∷ ls) = local.Var v ∷ rewrite_locals src ls
rewrite_locals src (local.Cell c ∷ ls) = rewrite_locals src ls
rewrite_locals src (local.Action a ∷ ls) = local.Action (rewrite_action src a) ∷ rewrite_locals src ls
rewrite_locals src (local.Table t ∷ ls) = local.Table t ∷ rewrite_locals src ls

-- the types and the cells of a program
abbrev pub source_of : P4Program → Source
source_of p = let types = (locals p).types in record { types = types; registers = registers_from types 0 p.ingress.locals }

-- the ingress control with a parameter `rp`, without cells
abbrev pub rewrite_ingress : Source → P4Ingress → P4Ingress
rewrite_ingress src c = record {
  at = c.at;
  name = c.name;
  headers = c.headers;
  meta = c.meta;
  std = c.std;
  rp = Some (record { at = 0; type_ = name (codes "rp_t"); name = name (codes "rp") });
  locals = rewrite_locals src c.locals;
  block = rewrite_block src c.block;
}

-- the rewritten program
abbrev pub rewritten : P4Program → P4Program
rewritten p = record {
  at = p.at;
  declarations = p.declarations;
  parser = p.parser;
  ingress = rewrite_ingress (source_of p) p.ingress;
  deparser = p.deparser;
  «package» = p.«package»;
}
