-- What the new statements of a rewritten program do.
use Rattle.std.proofs.Common.{◌≡◌, ℕ, ◌+◌, ◌%◌, ◌^◌, ◌<◌, ◌≤◌, Bool, true, false, List, [], ◌∷◌, ◌++◌, map, Option, Some, None, refl, sym, ap, ◌∙◌, if◌then◌else◌, codes, option_map, set, nat_lt, arith, lit<, ◌==◌}
use Rattle.std.proofs.lemmas.Bool.{false≢true, lt-ltb}
use Rattle.std.proofs.Math.Nat.{mod-eq_of_lt, mod-lt, zero-add}
use Rattle.p4_ast.specs.declared.name.P4Left.{P4Left}
use Rattle.p4_ast.specs.declared.declaration.P4Type.{P4Type}
use Rattle.p4_ast.specs.declared.expression.P4Expr.{P4Expr}
use Rattle.p4_ast.specs.declared.expression.P4Expr.TheVariants as expr
use Rattle.p4_ast.specs.declared.expression.P4BinaryOp.TheVariants as binary
use Rattle.p4_ast.specs.declared.statement.P4Cond.TheVariants as p4cond
use Rattle.p4_ast.specs.declared.statement.P4Stmt.{P4Stmt}
use Rattle.p4_ast.specs.declared.statement.P4Stmt.TheVariants as stmt
use Rattle.p4_ast.specs.declared.statement.P4Block.{P4Block}
use Rattle.p4_ast.specs.declared.statement.P4If.{roll-P4If}
use Rattle.rp_app.specs.Application.{Delta, with_cell}
use Rattle.app_data.specs.declared.value.Value.{Value}
use Rattle.app_meaning.specs.Values.{cut, truth, bit_of, holds}
use Rattle.app_meaning.specs.Slots.{Scope, type_width}
use Rattle.app_meaning.specs.Expressions.{eval, literal}
use Rattle.app_meaning.specs.Assigning.{assign}
use Rattle.app_data.specs.declared.run.Run.{Run}
use Rattle.app_meaning.specs.Statements.{Context, with_values, member, cell_number, store, run_stmt, run_block, in_turn, or_nothing}
use Rattle.app_meaning.proofs.Equations.{eval-Binary, eval-Number, eval-Path, eval-Cast, run-Assign, run-Read, run-Write, run-If, run-if, run-block}
use Rattle.p4_check.specs.Rewriting.{name, number, bit, rp_path, set_rp, block, if_so, held_only, member_index, is_within, cells_read, cells_written}
use Rattle.rewrite_laws.proofs.Lifted.{all_cells, lift}

-- whether a cell was written
abbrev pub is_dirty : Delta → Bool
is_dirty [] = false
is_dirty (d ∷ ds) = true

-- the rewritten program's run where the source's run is `r`
abbrev pub ext : Bool → Bool → Run → Run
ext live asks r =
    record { values = truth live ∷ truth (is_dirty r.delta) ∷ truth asks ∷ r.values; cells = r.cells; delta = r.delta; key = r.key }

pub dirty_after : (d : Delta) (i k : ℕ) → is_dirty (with_cell d i k) ≡ true
dirty_after [] i k = refl
dirty_after (d ∷ ds) i k = first (d.0 == i) (nat_lt i d.0) where
  second : (u : Bool) → is_dirty (if u then (i, k) ∷ d ∷ ds else d ∷ with_cell ds i k) ≡ true
  second true = refl
  second false = refl

  first : (t u : Bool) → is_dirty (if t then (i, k) ∷ ds else (if u then (i, k) ∷ d ∷ ds else d ∷ with_cell ds i k)) ≡ true
  first true u = refl
  first false u = second u

pub in_turn-append : (xs ys : List P4Stmt) (ctx : Context) (r : Run) → in_turn (map run_stmt (xs ++ ys)) ctx r ≡ in_turn (map run_stmt ys) ctx (in_turn (map run_stmt xs) ctx r)
in_turn-append [] ys ctx r = refl
in_turn-append (x ∷ xs) ys ctx r = in_turn-append xs ys ctx (run_stmt x ctx r)

-- ---- numbers

pub small : (k : ℕ) → k ≤ 256 → k % 65536 ≡ k
small k h = mod-eq_of_lt (omega (arith, h))

pub small_sum : (first size i : ℕ) → first + size ≤ 256 → i < size → (first % 65536 + i) % 65536 ≡ first + i
small_sum first size i h l =
    let e : first % 65536 ≡ first = small first (omega (arith, h)) in
    rw (e) (mod-eq_of_lt (omega (arith, h, l)))

pub twice : (k : ℕ) → k % 2 ^ 64 % 2 ^ 64 ≡ k % 2 ^ 64
twice k = mod-eq_of_lt (mod-lt k (lit< tt))

pub member-in : (first size i : ℕ) → i < size → member first size i ≡ Some (first + i)
member-in first size i h = rw (lt-ltb i size h) refl

-- a cell below `n` among all cells
pub member-all : (n k : ℕ) → k < n → member 0 n k ≡ Some k
member-all n k h = member-in 0 n k h ∙ ap (λ (x : ℕ). Some x) (zero-add k)

-- ---- expressions

pub eval-number : (w k : ℕ) (sc : Scope) (vs : List Value) → eval (number w k) sc vs ≡ literal (record { at = 0; value = k; width = Some w })
eval-number w k sc vs = rw (eval-Number 0 (record { at = 0; value = k; width = Some w })) refl

pub eval-member : (first : ℕ) (i : P4Expr) (sc : Scope) (vs : List Value) → (eval (member_index first i) sc vs).number ≡ (first % 65536 + (eval i sc vs).number) % 65536
eval-member first i sc vs = rw (eval-Binary 0 binary.Plus (number 16 first) i, eval-number 16 first sc vs) refl

pub eval-within : (size : ℕ) (i : P4Expr) (sc : Scope) (vs : List Value) → eval (is_within size i) sc vs ≡ truth (nat_lt (eval i sc vs).number (size % 65536))
eval-within size i sc vs = rw (eval-Binary 0 binary.Less i (number 16 size), eval-number 16 size sc vs) refl

pub eval-cast64 : (e : P4Expr) (sc : Scope) (vs : List Value) → eval (expr.Cast 0 (bit 64) e) sc vs ≡ cut 64 (eval e sc vs).number
eval-cast64 e sc vs = rw (eval-Cast 0 (bit 64) e) refl

pub holds-truth : (b : Bool) → holds (truth b) ≡ b
holds-truth true = refl
holds-truth false = refl

-- ---- statements

pub run-if_so : (e : P4Expr) (ss : List P4Stmt) (o : Option P4Block) (ctx : Context) (r : Run) → run_stmt (if_so e ss o) ctx r ≡ (if holds (eval e ctx.scope r.values) then in_turn (map run_stmt ss) ctx r else or_nothing (option_map run_block o) ctx r)
run-if_so e ss o ctx r =
    rw (run-If (roll-P4If (record { at = 0; cond = p4cond.Expr e; then = block ss; else_ = o })), run-if 0 (p4cond.Expr e) (block ss) o, run-block 0 ss) refl

pub run-cells_read : (left : P4Left) (t : P4Type) (i : P4Expr) (n : ℕ) (sc : Scope) (f : _) (g : _) (r : Run)
    → run_stmt (cells_read left t i) (record { scope = lift (all_cells n) sc; call = f; apply = g }) r
    ≡ with_values r (assign (lift (all_cells n) sc) left (cell_number r.cells (member 0 n (eval i (lift (all_cells n) sc) r.values).number) % 2 ^ type_width sc.types t) r.values)
run-cells_read left t i n sc f g r =
    rw (run-Read (record { at = 0; left = left; type_ = Some t; name = name (codes "rp_cells"); expr = Some i })) refl

-- `rp.dirty = 1w1;` and `rp.verdict = 1w1;`
pub run-set_dirty : (n : ℕ) (sc : Scope) (f : _) (g : _) (h d v : Bool) (vs : List Value) (r : Run) → r.values ≡ (truth h ∷ truth d ∷ truth v ∷ vs)
    → run_stmt (set_rp (codes "dirty")) (record { scope = lift (all_cells n) sc; call = f; apply = g }) r ≡ with_values r (truth h ∷ truth true ∷ truth v ∷ vs)
run-set_dirty n sc f g h d v vs r e =
    rw (run-Assign (record { at = 0; left = record { at = 0; path = rp_path (codes "dirty"); slice = None }; expr = number 1 1 }), eval-number 1 1 (lift (all_cells n) sc) r.values, e) refl

pub run-set_verdict : (n : ℕ) (sc : Scope) (f : _) (g : _) (h d v : Bool) (vs : List Value) (r : Run) → r.values ≡ (truth h ∷ truth d ∷ truth v ∷ vs)
    → run_stmt (set_rp (codes "verdict")) (record { scope = lift (all_cells n) sc; call = f; apply = g }) r ≡ with_values r (truth h ∷ truth d ∷ truth true ∷ vs)
run-set_verdict n sc f g h d v vs r e =
    rw (run-Assign (record { at = 0; left = record { at = 0; path = rp_path (codes "verdict"); slice = None }; expr = number 1 1 }), eval-number 1 1 (lift (all_cells n) sc) r.values, e) refl

eval-held : (n : ℕ) (sc : Scope) (h : Bool) (vs : List Value) → eval (expr.Binary 0 binary.Equal (expr.Path 0 (rp_path (codes "held"))) (number 1 1)) (lift (all_cells n) sc) (truth h ∷ vs) ≡ truth (bit_of h == 1)
eval-held n sc h vs = rw (eval-Binary 0 binary.Equal (expr.Path 0 (rp_path (codes "held"))) (number 1 1), eval-Path 0 (rp_path (codes "held")), eval-number 1 1 (lift (all_cells n) sc) (truth h ∷ vs)) refl

-- the body of a `flow_key` under the lease
pub run-body_held : (ss : List P4Stmt) (n : ℕ) (sc : Scope) (f : _) (g : _) (asks : Bool) (r : Run)
    → run_stmt (held_only ss) (record { scope = lift (all_cells n) sc; call = f; apply = g }) (ext true asks r) ≡ in_turn (map run_stmt ss) (record { scope = lift (all_cells n) sc; call = f; apply = g }) (ext true asks r)
run-body_held ss n sc f g asks r =
    let e : eval (expr.Binary 0 binary.Equal (expr.Path 0 (rp_path (codes "held"))) (number 1 1)) (lift (all_cells n) sc) (ext true asks r).values ≡ truth true = eval-held n sc true (truth (is_dirty r.delta) ∷ truth asks ∷ r.values) in
    rw (run-if_so (expr.Binary 0 binary.Equal (expr.Path 0 (rp_path (codes "held"))) (number 1 1)) ss (Some (block (set_rp (codes "verdict") ∷ []))) (record { scope = lift (all_cells n) sc; call = f; apply = g }) (ext true asks r), e) refl

-- the other branch of a `flow_key`, without the lease
pub run-body_asks : (ss : List P4Stmt) (n : ℕ) (sc : Scope) (f : _) (g : _) (asks : Bool) (r : Run)
    → run_stmt (held_only ss) (record { scope = lift (all_cells n) sc; call = f; apply = g }) (ext false asks r) ≡ ext false true r
run-body_asks ss n sc f g asks r =
    let e : eval (expr.Binary 0 binary.Equal (expr.Path 0 (rp_path (codes "held"))) (number 1 1)) (lift (all_cells n) sc) (ext false asks r).values ≡ truth false = eval-held n sc false (truth (is_dirty r.delta) ∷ truth asks ∷ r.values) in
    rw (run-if_so (expr.Binary 0 binary.Equal (expr.Path 0 (rp_path (codes "held"))) (number 1 1)) ss (Some (block (set_rp (codes "verdict") ∷ []))) (record { scope = lift (all_cells n) sc; call = f; apply = g }) (ext false asks r), e, run-block 0 (set_rp (codes "verdict") ∷ []))
    (run-set_verdict n sc f g false (is_dirty r.delta) asks r.values (ext false asks r) refl)

-- a write of a cell among all cells, and `rp.dirty`
pub run-cells_written : (i v : P4Expr) (n k : ℕ) (sc : Scope) (f : _) (g : _) (live asks : Bool) (r : Run)
    → (eval i (lift (all_cells n) sc) (ext live asks r).values).number ≡ k → k < n
    → in_turn (map run_stmt (cells_written i v)) (record { scope = lift (all_cells n) sc; call = f; apply = g }) (ext live asks r)
    ≡ ext live asks (store (Some k) ((eval v (lift (all_cells n) sc) (ext live asks r).values).number % 2 ^ 64) r)
run-cells_written i v n k sc f g live asks r e l =
    let number : ℕ = (eval v (lift (all_cells n) sc) (ext live asks r).values).number % 2 ^ 64 in
    let stored : run_stmt (stmt.Write (record { at = 0; name = name (codes "rp_cells"); expr = i; second = Some (expr.Cast 0 (bit 64) v) })) (record { scope = lift (all_cells n) sc; call = f; apply = g }) (ext live asks r)
    ≡ store (Some k) number (ext live asks r) =
    rw (run-Write (record { at = 0; name = name (codes "rp_cells"); expr = i; second = Some (expr.Cast 0 (bit 64) v) }), eval-cast64 v (lift (all_cells n) sc) (ext live asks r).values, e, member-all n k l, twice (eval v (lift (all_cells n) sc) (ext live asks r).values).number) refl in
    rw (stored, run-set_dirty n sc f g live (is_dirty r.delta) asks r.values (store (Some k) number (ext live asks r)) refl)
    (ap (λ (b : Bool). record { values = truth live ∷ truth b ∷ truth asks ∷ r.values; cells = set r.cells k number; delta = with_cell r.delta k number; key = r.key }) (sym (dirty_after r.delta k number)))

-- the body of a `flow_key` where there is a lease
pub run-body_live : (live : Bool) → live ≡ true → (ss : List P4Stmt) (n : ℕ) (sc : Scope) (f : _) (g : _) (asks : Bool) (r : Run)
    → run_stmt (held_only ss) (record { scope = lift (all_cells n) sc; call = f; apply = g }) (ext live asks r) ≡ in_turn (map run_stmt ss) (record { scope = lift (all_cells n) sc; call = f; apply = g }) (ext live asks r)
run-body_live true h ss n sc f g asks r = run-body_held ss n sc f g asks r
run-body_live false h ss n sc f g asks r = absurd (false≢true h)
