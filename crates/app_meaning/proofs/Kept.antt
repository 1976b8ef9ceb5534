-- What assignments, stores of cells and keys keep, every statement keeps.
use Rattle.std.proofs.Common.{◌≡◌, ℕ, ◌+◌, ◌%◌, ◌^◌, ◌<◌, ◌≤◌, Bool, true, false, List, [], ◌∷◌, map, Option, Some, None, refl, if◌then◌else◌, option_map, nat_lt, bytes_eq, arith}
use Rattle.std.proofs.lemmas.Bool.{ltb-true, cond_both}
use Rattle.std.specs.List.{AllByRecursion}
use Rattle.p4_ast.specs.declared.expression.P4Expr.{P4Expr}
use Rattle.p4_ast.specs.declared.control.P4Local.{P4Local}
use Rattle.p4_ast.specs.declared.control.P4Local.TheVariants as local
use Rattle.p4_ast.specs.declared.control.P4Action.{P4Action}
use Rattle.p4_ast.specs.declared.statement.P4Read.{P4Read}
use Rattle.p4_ast.specs.declared.statement.P4Write.{P4Write}
use Rattle.p4_ast.specs.declared.statement.P4Cond.{P4Cond}
use Rattle.p4_ast.specs.declared.statement.P4Cond.TheVariants as p4cond
use Rattle.p4_ast.specs.declared.statement.P4Stmt.{P4Stmt}
use Rattle.p4_ast.specs.declared.statement.P4Block.{P4Block}
use Rattle.p4_ast.specs.declared.statement.P4If.{P4If}
use Rattle.p4_ast.specs.declared.table.P4Default.{P4Default}
use Rattle.p4_ast.specs.declared.table.P4Table.{P4Table}
use Rattle.p4_ast.specs.declared.table.P4Call.{P4Call}
use Rattle.p4_ast.proofs.Induction.{StmtCases, OfElse, block-ind}
use Rattle.app_data.specs.declared.value.Value.{Value}
use Rattle.app_data.specs.declared.scope.Register.{Register}
use Rattle.app_meaning.specs.Slots.{Name, Scope, named_register, text}
use Rattle.app_meaning.specs.Expressions.{eval}
use Rattle.app_data.specs.declared.value.Match.{Match}
use Rattle.app_meaning.specs.Matches.{winner}
use Rattle.app_data.specs.declared.run.Run.{Run}
use Rattle.app_meaning.specs.Statements.{Context, with_values, with_key, key_bytes, member, store, read_from, write_cell, write_to, values_of, test, branch, or_nothing, in_turn, run_stmt, run_block, run_if}
use Rattle.app_meaning.specs.Actions.{inside, pass, run_action, call, lpm_place, entries_of, rows, key_values, run_default, after_look, run_table, apply, control_context}
use Rattle.app_meaning.proofs.Equations.{run-Block, run-Var, run-Assign, run-Read, run-Write, run-Keystmt, run-Valid, run-Apply, run-Callstmt, run-If, run-if, run-block}
use Rattle.app_meaning.proofs.Cells.{Within}

module _ (n : ℕ) (I : Run → Type 0)
    (on_values : (r : Run) (vs : List Value) → I r → I (with_values r vs))
    (on_key : (r : Run) (v : Value) → I r → I (with_key r (key_bytes v)))
    (on_store : (r : Run) (i k : ℕ) → i < n → I r → I (store (Some i) k r)) where
  abbrev Keeps : (Run → Run) → Type 0
  Keeps m = (r : Run) → I r → I (m r)

  module _ (sc : Scope) (fits : (name : Name) (g : Register) → named_register name sc.registers ≡ Some g → Within n g.first g.size)
      (f : Name → List Value → Run → Run) (g : Name → Run → Run × Bool)
      (called : (name : Name) (args : List Value) → Keeps (f name args)) (applied : (name : Name) → Keeps (λ r. (g name r).0)) where
    abbrev C : Context
    C = record { scope = sc; call = f; apply = g }

    abbrev OnStmt : P4Stmt → Type 0
    OnStmt s = Keeps (run_stmt s C)

    abbrev OnBlock : P4Block → Type 0
    OnBlock b = Keeps (run_block b C)

    abbrev OnIf : P4If → Type 0
    OnIf i = Keeps (run_if i C)

    kept_read : (x : P4Read) (o : Option Register) → Keeps (read_from sc x o)
    kept_read x None r h = h
    kept_read x (Some k) r h = on_values r _ h

    kept_member : (first size i k : ℕ) (r : Run) → first + size ≤ n → I r → I (store (member first size i) k r)
    kept_member first size i k r w h =
        cond_both (nat_lt i size) (Some (first + i)) None (λ (o : Option ℕ). I (store o k r)) (λ e. let l : i < size = ltb-true i size e in on_store r (first + i) k (omega (arith, w, l)) h) (λ e. h)

    kept_cell : (first : ℕ) (size : Option ℕ) (e : P4Expr) (second : Option P4Expr) → Within n first size → Keeps (write_cell sc first size e second)
    kept_cell first None e second w r h = on_store r first _ w h
    kept_cell first (Some k) e None w r h = h
    kept_cell first (Some k) e (Some v) w r h = kept_member first k (eval e sc r.values).number ((eval v sc r.values).number % 2 ^ 64) r w h

    kept_write : (x : P4Write) (o : Option Register) → ((k : Register) → o ≡ Some k → Within n k.first k.size) → Keeps (write_to sc x o)
    kept_write x None w r h = h
    kept_write x (Some k) w r h = kept_cell k.first k.size x.expr x.second (w k refl) r h

    kept_list : (ss : List P4Stmt) → AllByRecursion OnStmt ss → Keeps (in_turn (map run_stmt ss) C)
    kept_list [] all r h = h
    kept_list (s ∷ ss) all r h = kept_list ss all.1 (run_stmt s C r) (all.0 r h)

    kept_test : (c : P4Cond) → Keeps (λ r. (test c C r).0)
    kept_test (p4cond.Expr e) r h = h
    kept_test (p4cond.Apply at negated name outcome) r h = applied (text name) r h

    kept_else : (o : Option P4Block) → OfElse OnBlock o → Keeps (or_nothing (option_map run_block o) C)
    kept_else None p r h = h
    kept_else (Some b) p r h = p r h

    kept_branch : (b : P4Block) (o : Option P4Block) → OnBlock b → OfElse OnBlock o → (hit : Bool) → Keeps (λ r. branch (run_block b) (option_map run_block o) C (r, hit))
    kept_branch b o p q true r h = p r h
    kept_branch b o p q false r h = kept_else o q r h

    cases : StmtCases OnStmt OnBlock OnIf
    cases = record {
      block = λ b p r h. rw (run-Block b) (p r h);
      var = λ v r h. rw (run-Var v) (on_values r _ h);
      assign = λ a r h. rw (run-Assign a) (on_values r _ h);
      read = λ x r h. rw (run-Read x) (kept_read x (named_register (text x.name) sc.registers) r h);
      write = λ x r h. rw (run-Write x) (kept_write x (named_register (text x.name) sc.registers) (fits (text x.name)) r h);
      keystmt = λ x r h. rw (run-Keystmt x) (on_key r (eval x.expr sc r.values) h);
      valid = λ x r h. rw (run-Valid x) (on_values r _ h);
      apply = λ x r h. rw (run-Apply x) (applied (text x.name) r h);
      callstmt = λ x r h. rw (run-Callstmt x) (called (text x.name) (values_of x.args sc r.values) r h);
      branches = λ i p r h. rw (run-If i) (p r h);
      stmts = λ at ss all r h. rw (run-block at ss) (kept_list ss all r h);
      parts = λ at c b o p q r h. rw (run-if at c b o) (kept_branch b o p q (test c C r).1 (test c C r).0 (kept_test c r h));
    }

    pub block_keeps : (b : P4Block) → Keeps (run_block b C)
    block_keeps = block-ind OnStmt OnBlock OnIf cases

  module _ (sc : Scope) (fits : (name : Name) (g : Register) → named_register name sc.registers ≡ Some g → Within n g.first g.size) where
    keeps_if : (b : Bool) (m l : Run → Run) → Keeps m → Keeps l → Keeps (λ r. if b then m r else l r)
    keeps_if true m l p q r h = p r h
    keeps_if false m l p q r h = q r h

    action_keeps : (a : P4Action) (args : List Value) → Keeps (run_action sc a args)
    action_keeps a args r h =
        block_keeps (inside sc (text a.name)) fits (λ name args run. run) (λ table run. (run, false)) (λ name args r h. h) (λ name r h. h) a.block
        (with_values r (pass (inside sc (text a.name)) a.params args r.values)) (on_values r _ h)

    pub call_keeps : (ls : List P4Local) (name : Name) (args : List Value) → Keeps (call sc ls name args)
    call_keeps [] name args r h = h
    call_keeps (local.Const c ∷ ls) name args r h = call_keeps ls name args r h
    call_keeps (local.Var v ∷ ls) name args r h = call_keeps ls name args r h
    call_keeps (local.Cell c ∷ ls) name args r h = call_keeps ls name args r h
    call_keeps (local.Table t ∷ ls) name args r h = call_keeps ls name args r h
    call_keeps (local.Action a ∷ ls) name args r h = keeps_if (bytes_eq (text a.name) name) (run_action sc a args) (call sc ls name args) (action_keeps a args) (call_keeps ls name args) r h

    default_keeps : (actions : List P4Local) (d : Option P4Default) → Keeps (run_default sc actions d)
    default_keeps actions None r h = h
    default_keeps actions (Some d) r h = call_keeps actions (text d.call.name) (values_of d.call.args sc r.values) r h

    look_keeps : (actions : List P4Local) (d : Option P4Default) (o : Option (List Match × P4Call)) → Keeps (λ r. (after_look sc actions d o r).0)
    look_keeps actions d None r h = default_keeps actions d r h
    look_keeps actions d (Some row) r h = call_keeps actions (text row.1.name) (values_of row.1.args sc r.values) r h

    test_keeps_if : (b : Bool) (m l : Run → Run × Bool) → Keeps (λ r. (m r).0) → Keeps (λ r. (l r).0) → Keeps (λ r. (if b then m r else l r).0)
    test_keeps_if true m l p q r h = p r h
    test_keeps_if false m l p q r h = q r h

    table_keeps : (actions : List P4Local) (t : P4Table) → Keeps (λ r. (run_table sc actions t r).0)
    table_keeps actions t r h = look_keeps actions t.default (winner (lpm_place t.keys.keys) (key_values t.keys.keys sc r.values) (rows sc (entries_of t.entries))) r h

    pub apply_keeps : (actions ls : List P4Local) (name : Name) → Keeps (λ r. (apply sc actions ls name r).0)
    apply_keeps actions [] name r h = h
    apply_keeps actions (local.Const c ∷ ls) name r h = apply_keeps actions ls name r h
    apply_keeps actions (local.Var v ∷ ls) name r h = apply_keeps actions ls name r h
    apply_keeps actions (local.Cell c ∷ ls) name r h = apply_keeps actions ls name r h
    apply_keeps actions (local.Action a ∷ ls) name r h = apply_keeps actions ls name r h
    apply_keeps actions (local.Table t ∷ ls) name r h = test_keeps_if (bytes_eq (text t.name) name) (run_table sc actions t) (apply sc actions ls name) (table_keeps actions t) (apply_keeps actions ls name) r h

    -- the control's block keeps it
    pub control_keeps : (ls : List P4Local) (b : P4Block) → Keeps (run_block b (control_context sc ls))
    control_keeps ls b = block_keeps sc fits (call sc ls) (apply sc ls ls) (call_keeps ls) (apply_keeps ls ls) b
