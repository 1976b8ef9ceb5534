-- The rewritten program declares what the source does, but for its cells.
use Rattle.std.proofs.Common.{◌≡◌, ℕ, Bool, true, false, List, [], ◌∷◌, ◌++◌, map, fold, Option, Some, None, refl, sym, ap, ◌∙◌, if◌then◌else◌, option_map}
use Rattle.std.specs.List.{AllByRecursion}
use Rattle.p4_ast.specs.declared.name.P4Left.{P4Left}
use Rattle.p4_ast.specs.declared.declaration.P4Type.{P4Type}
use Rattle.p4_ast.specs.declared.expression.P4Expr.{P4Expr}
use Rattle.p4_ast.specs.declared.control.P4Var.{P4Var}
use Rattle.p4_ast.specs.declared.control.P4Local.{P4Local}
use Rattle.p4_ast.specs.declared.control.P4Local.TheVariants as local
use Rattle.p4_ast.specs.declared.statement.P4Read.{P4Read}
use Rattle.p4_ast.specs.declared.statement.P4Write.{P4Write}
use Rattle.p4_ast.specs.declared.statement.P4Cond.{P4Cond}
use Rattle.p4_ast.specs.declared.statement.P4Stmt.{P4Stmt, fold-P4Stmt}
use Rattle.p4_ast.specs.declared.statement.P4Stmt.TheVariants as stmt
use Rattle.p4_ast.specs.declared.statement.P4Block.{P4Block, roll-P4Block, fold-roll-P4Block}
use Rattle.p4_ast.specs.declared.statement.P4If.{P4If, fold-P4If, roll-P4If, fold-roll-P4If}
use Rattle.p4_ast.proofs.Folds.{fold_stmt-Block, fold_stmt-Assign, fold_stmt-Read, fold_stmt-Write, fold_stmt-If}
use Rattle.p4_ast.proofs.Induction.{StmtCases, OfElse, block-ind}
use Rattle.app_data.specs.declared.scope.Register.{Register}
use Rattle.app_data.specs.declared.scope.Slot.{Slot}
use Rattle.app_data.specs.declared.scope.TypeSlots.{TypeSlots}
use Rattle.app_meaning.specs.Slots.{Name, Scope, named_register, text, type_width}
use Rattle.app_meaning.specs.Programs.{with_local, joined, in_else, stmt_variables, block_variables, if_variables, variables_of, variable_slot, local_slots}
use Rattle.p4_check.specs.Rewriting.{Source, Piece, block, if_so, held_only, set_rp, assigned_zero, cells_read, cells_written, read_of, write_of, new_read, new_write, rewrite_stmt, rewrite_block, rewrite_if, rewrite_locals, cast_type}
use Rattle.p4_check.specs.Rewriting as rewriting
use Rattle.rewrite_laws.proofs.Rewrites.{rewrite-Block, rewrite-Var, rewrite-Assign, rewrite-Read, rewrite-Write, rewrite-Keystmt, rewrite-Valid, rewrite-Apply, rewrite-Callstmt, rewrite-If, rewrite-block, rewrite-if}

abbrev Vs : Type 0
Vs = List P4Var

-- the variables that a statement declares
stmt_vars : P4Stmt → Vs
stmt_vars = fold-P4Stmt Vs Vs Vs stmt_variables block_variables if_variables

if_vars : P4If → Vs
if_vars = fold-P4If Vs Vs Vs stmt_variables block_variables if_variables

vars-block : (at : ℕ) (ss : List P4Stmt) → variables_of (roll-P4Block (record { at = at; stmts = ss })) ≡ joined (map stmt_vars ss)
unfolding stmt_vars
vars-block at ss = fold-roll-P4Block Vs Vs Vs stmt_variables block_variables if_variables (record { at = at; stmts = ss })

vars-if : (at : ℕ) (c : P4Cond) (b : P4Block) (o : Option P4Block) → if_vars (roll-P4If (record { at = at; cond = c; then = b; else_ = o })) ≡ variables_of b ++ in_else (option_map variables_of o)
unfolding if_vars
vars-if at c b None = fold-roll-P4If Vs Vs Vs stmt_variables block_variables if_variables (record { at = at; cond = c; then = b; else_ = None })
vars-if at c b (Some x) = fold-roll-P4If Vs Vs Vs stmt_variables block_variables if_variables (record { at = at; cond = c; then = b; else_ = Some x })

vars-If : (i : P4If) → stmt_vars (stmt.If i) ≡ if_vars i
unfolding stmt_vars if_vars
vars-If i = fold_stmt-If Vs Vs Vs stmt_variables block_variables if_variables i

vars-Block : (b : P4Block) → stmt_vars (stmt.Block b) ≡ variables_of b
unfolding stmt_vars
vars-Block b = fold_stmt-Block Vs Vs Vs stmt_variables block_variables if_variables b

vars-Assign : (x : _) → stmt_vars (stmt.Assign x) ≡ []
unfolding stmt_vars
vars-Assign x = fold_stmt-Assign Vs Vs Vs stmt_variables block_variables if_variables x

vars-Read : (x : _) → stmt_vars (stmt.Read x) ≡ []
unfolding stmt_vars
vars-Read x = fold_stmt-Read Vs Vs Vs stmt_variables block_variables if_variables x

vars-Write : (x : _) → stmt_vars (stmt.Write x) ≡ []
unfolding stmt_vars
vars-Write x = fold_stmt-Write Vs Vs Vs stmt_variables block_variables if_variables x

append-nil : (vs : Vs) → vs ++ [] ≡ vs
append-nil [] = refl
append-nil (v ∷ vs) = ap (λ (x : Vs). v ∷ x) (append-nil vs)

append-assoc : (a b c : Vs) → (a ++ b) ++ c ≡ a ++ (b ++ c)
append-assoc [] b c = refl
append-assoc (x ∷ a) b c = ap (λ (y : Vs). x ∷ y) (append-assoc a b c)

abbrev all_vars : List P4Stmt → Vs
all_vars ss = joined (map stmt_vars ss)

all_vars-append : (xs ys : List P4Stmt) → all_vars (xs ++ ys) ≡ all_vars xs ++ all_vars ys
all_vars-append [] ys = refl
all_vars-append (x ∷ xs) ys = ap (λ (v : Vs). stmt_vars x ++ v) (all_vars-append xs ys) ∙ sym (append-assoc (stmt_vars x) (all_vars xs) (all_vars ys))

vars-set_rp : (field : Name) → stmt_vars (set_rp field) ≡ []
vars-set_rp field = vars-Assign _

vars-if_so : (e : P4Expr) (ss : List P4Stmt) (o : Option P4Block) → stmt_vars (if_so e ss o) ≡ all_vars ss ++ in_else (option_map variables_of o)
vars-if_so e ss o = vars-If _ ∙ vars-if 0 _ (block ss) o ∙ ap (λ (v : Vs). v ++ in_else (option_map variables_of o)) (vars-block 0 ss)

vars-held_only : (ss : List P4Stmt) → stmt_vars (held_only ss) ≡ all_vars ss
vars-held_only ss =
    vars-if_so _ ss (Some (block (set_rp _ ∷ [])))
    ∙ ap (λ (v : Vs). all_vars ss ++ v) (vars-block 0 (set_rp _ ∷ []) ∙ ap (λ (v : Vs). v ++ []) (vars-set_rp _))
    ∙ append-nil (all_vars ss)

vars-written : (i v : P4Expr) → all_vars (cells_written i v) ≡ []
vars-written i v = rw (vars-Write _, vars-set_rp _) refl

vars-zero : (left : P4Left) (w : ℕ) → stmt_vars (assigned_zero left w) ≡ []
vars-zero left w = vars-Assign _

vars-cells_read : (left : P4Left) (t : P4Type) (i : P4Expr) → stmt_vars (cells_read left t i) ≡ []
vars-cells_read left t i = vars-Read _

vars-read_of : (types : List TypeSlots) (left : P4Left) (t : P4Type) (first : ℕ) (size : Option ℕ) (i : Option P4Expr) → stmt_vars (read_of types left t first size i) ≡ []
vars-read_of types left t first None i = vars-cells_read left t _
vars-read_of types left t first (Some k) None = vars-zero left _
vars-read_of types left t first (Some k) (Some i) =
    vars-if_so _ (cells_read left t _ ∷ []) (Some (block (assigned_zero left _ ∷ [])))
    ∙ rw (vars-cells_read left t (rewriting.member_index first i), vars-block 0 (assigned_zero left _ ∷ []), vars-zero left (type_width types t)) refl

vars-write_of : (first : ℕ) (size : Option ℕ) (e : P4Expr) (second : Option P4Expr) → all_vars (write_of first size e second) ≡ []
vars-write_of first None e second = vars-written _ e
vars-write_of first (Some k) e None = refl
vars-write_of first (Some k) e (Some v) =
    rw (vars-if_so (rewriting.is_within k e) (cells_written (rewriting.member_index first e) v) None, vars-written (rewriting.member_index first e) v) refl

vars-new_read : (types : List TypeSlots) (x : P4Read) (o : Option Register) → all_vars (new_read types x o) ≡ []
vars-new_read types x None = refl
vars-new_read types x (Some g) = rw (vars-read_of types x.left (cast_type x.type_ g.width) g.first g.size x.expr) refl

vars-new_write : (x : P4Write) (o : Option Register) → all_vars (new_write x o) ≡ []
vars-new_write x None = refl
vars-new_write x (Some g) = vars-write_of g.first g.size x.expr x.second

module _ (src : Source) where
  abbrev SameStmt : P4Stmt → Type 0
  SameStmt s = all_vars (rewrite_stmt src s).stmts ≡ stmt_vars s

  abbrev SameBlock : P4Block → Type 0
  SameBlock b = variables_of (rewrite_block src b) ≡ variables_of b

  abbrev SameIf : P4If → Type 0
  SameIf i = if_vars (rewrite_if src i) ≡ if_vars i

  -- a statement that stays as it is
  kept : (s : P4Stmt) → rewrite_stmt src s ≡ rewriting.one_stmt s → SameStmt s
  kept s e = rw (e) (append-nil (stmt_vars s))

  follows : (b : Bool) (ss : List P4Stmt) → all_vars (if b then held_only ss ∷ [] else ss) ≡ all_vars ss
  follows true ss = ap (λ (v : Vs). v ++ []) (vars-held_only ss) ∙ append-nil (all_vars ss)
  follows false ss = refl

  same_list : (ss : List P4Stmt) → AllByRecursion SameStmt ss → all_vars (rewriting.joined (map (rewrite_stmt src) ss)) ≡ all_vars ss
  same_list [] all = refl
  same_list (s ∷ ss) all =
      let rest : List P4Stmt = rewriting.joined (map (rewrite_stmt src) ss) in
      all_vars-append (rewrite_stmt src s).stmts (if (rewrite_stmt src s).is_key then held_only rest ∷ [] else rest)
      ∙ ap (λ (v : Vs). v ++ all_vars (if (rewrite_stmt src s).is_key then held_only rest ∷ [] else rest)) all.0
      ∙ ap (λ (v : Vs). stmt_vars s ++ v) (follows (rewrite_stmt src s).is_key rest ∙ same_list ss all.1)

  same_stmts : (at : ℕ) (ss : List P4Stmt) → AllByRecursion SameStmt ss → SameBlock (roll-P4Block (record { at = at; stmts = ss }))
  same_stmts at ss all =
      ap variables_of (rewrite-block src at ss) ∙ vars-block at (rewriting.joined (map (rewrite_stmt src) ss)) ∙ same_list ss all ∙ sym (vars-block at ss)

  same_else : (o : Option P4Block) → OfElse SameBlock o → in_else (option_map variables_of (option_map (rewrite_block src) o)) ≡ in_else (option_map variables_of o)
  same_else None p = refl
  same_else (Some b) p = p

  same_parts : (at : ℕ) (c : P4Cond) (b : P4Block) (o : Option P4Block) → SameBlock b → OfElse SameBlock o → SameIf (roll-P4If (record { at = at; cond = c; then = b; else_ = o }))
  same_parts at c b o p q =
      ap if_vars (rewrite-if src at c b o) ∙ vars-if at c (rewrite_block src b) (option_map (rewrite_block src) o)
      ∙ ap (λ (v : Vs). v ++ in_else (option_map variables_of (option_map (rewrite_block src) o))) p
      ∙ ap (λ (v : Vs). variables_of b ++ v) (same_else o q) ∙ sym (vars-if at c b o)

  same_cases : StmtCases SameStmt SameBlock SameIf
  same_cases = record {
    block = λ b p. rw (rewrite-Block src b, vars-Block (rewrite_block src b), vars-Block b, p) (append-nil (variables_of b));
    var = λ v. kept (stmt.Var v) (rewrite-Var src v);
    assign = λ x. kept (stmt.Assign x) (rewrite-Assign src x);
    read = λ x. rw (rewrite-Read src x, vars-Read x) (vars-new_read src.types x (named_register (text x.name) src.registers));
    write = λ x. rw (rewrite-Write src x, vars-Write x) (vars-new_write x (named_register (text x.name) src.registers));
    keystmt = λ x. rw (rewrite-Keystmt src x) (append-nil (stmt_vars (stmt.Keystmt x)));
    valid = λ x. kept (stmt.Valid x) (rewrite-Valid src x);
    apply = λ x. kept (stmt.Apply x) (rewrite-Apply src x);
    callstmt = λ x. kept (stmt.Callstmt x) (rewrite-Callstmt src x);
    branches = λ i p. rw (rewrite-If src i, vars-If (rewrite_if src i), vars-If i, p) (append-nil (if_vars i));
    stmts = same_stmts;
    parts = same_parts;
  }

  pub same_variables : (b : P4Block) → variables_of (rewrite_block src b) ≡ variables_of b
  same_variables = block-ind SameStmt SameBlock SameIf same_cases

  pub same_slots : (types : List TypeSlots) (ls : List P4Local) → local_slots types (rewrite_locals src ls) ≡ local_slots types ls
  same_slots types [] = refl
  same_slots types (local.Const c ∷ ls) = same_slots types ls
  same_slots types (local.Var v ∷ ls) = ap (λ (ss : List Slot). variable_slot types v ∷ ss) (same_slots types ls)
  same_slots types (local.Cell c ∷ ls) = same_slots types ls
  same_slots types (local.Action a ∷ ls) = rw (same_variables a.block, same_slots types ls) refl
  same_slots types (local.Table t ∷ ls) = same_slots types ls

  pub same_constants : (sc : Scope) (ls : List P4Local) → fold with_local sc (rewrite_locals src ls) ≡ fold with_local sc ls
  same_constants sc [] = refl
  same_constants sc (local.Const c ∷ ls) = same_constants (with_local sc (local.Const c)) ls
  same_constants sc (local.Var v ∷ ls) = same_constants sc ls
  same_constants sc (local.Cell c ∷ ls) = same_constants sc ls
  same_constants sc (local.Action a ∷ ls) = same_constants sc ls
  same_constants sc (local.Table t ∷ ls) = same_constants sc ls
