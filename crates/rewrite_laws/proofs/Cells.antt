-- Reads and writes of the rewritten program.
use Rattle.std.proofs.Common.{◌≡◌, ℕ, ◌+◌, ◌%◌, ◌^◌, ◌<◌, ◌≤◌, Bool, true, false, List, [], ◌∷◌, map, Option, Some, None, refl, sym, ap, ◌∙◌, if◌then◌else◌, nat_lt, arith}
use Rattle.std.proofs.lemmas.Bool.{ltb-true}
use Rattle.std.proofs.Math.Nat.{zero-mod}
use Rattle.p4_ast.specs.declared.name.P4Left.{P4Left}
use Rattle.p4_ast.specs.declared.declaration.P4Type.{P4Type}
use Rattle.p4_ast.specs.declared.expression.P4Expr.{P4Expr}
use Rattle.p4_ast.specs.declared.statement.P4Read.{P4Read}
use Rattle.p4_ast.specs.declared.statement.P4Write.{P4Write}
use Rattle.app_data.specs.declared.value.Value.{Value}
use Rattle.app_meaning.specs.Values.{width_of, truth}
use Rattle.app_data.specs.declared.scope.Register.{Register}
use Rattle.app_meaning.specs.Slots.{Name, Scope, names, type_width}
use Rattle.app_meaning.specs.Expressions.{eval}
use Rattle.app_meaning.specs.Assigning.{assign}
use Rattle.app_data.specs.declared.run.Run.{Run}
use Rattle.app_meaning.specs.Statements.{Context, with_values, cell_of, optional_number, cell_number, read_width, read_from, store, write_cell, write_to, run_stmt, in_turn}
use Rattle.app_meaning.proofs.Equations.{run-Assign, run-block}
use Rattle.app_meaning.proofs.Cells.{Within}
use Rattle.p4_check.specs.Rewriting.{number, block, is_within, member_index, cells_read, cells_written, assigned_zero, cast_type, read_of, write_of, new_read, new_write}
use Rattle.app_meaning.specs.Premises.{path_free, expr_free, option_free}
use Rattle.rewrite_laws.proofs.Lifted.{all_cells, lift, OwnFree, eval3}
use Rattle.rewrite_laws.proofs.LiftedValues.{assign3}
use Rattle.rewrite_laws.proofs.Pieces.{ext, is_dirty, small, small_sum, member-all, eval-number, eval-member, eval-within, run-if_so, run-cells_read, run-cells_written}

pub cast_width : (sc : Scope) (g : Register) (o : Option P4Type) → type_width sc.types (cast_type o g.width) ≡ read_width sc g o
cast_width sc g None = refl
cast_width sc g (Some t) = refl

module _ (n : ℕ) (few : n ≤ 256) (sc : Scope) (own : OwnFree sc.own) (live : Bool) (f : Name → List Value → Run → Run) (g : Name → Run → Run × Bool) where
  abbrev C : Context
  C = record { scope = lift (all_cells n) sc; call = f; apply = g }

  -- an assignment of a number that both programs compute
  assigned_both : (left : P4Left) → path_free (names left.path) ≡ true → (k : ℕ) (asks : Bool) (r : Run)
      → with_values (ext live asks r) (assign (lift (all_cells n) sc) left k (ext live asks r).values) ≡ ext live asks (with_values r (assign sc left k r.values))
  assigned_both left h k asks r = rw (assign3 (all_cells n) sc own left h k (truth live) (truth (is_dirty r.delta)) (truth asks) r.values) refl

  zero_assigned : (left : P4Left) → path_free (names left.path) ≡ true → (w m : ℕ) (asks : Bool) (r : Run)
      → run_stmt (assigned_zero left w) C (ext live asks r) ≡ ext live asks (with_values r (assign sc left (0 % m) r.values))
  zero_assigned left h w m asks r =
      let e : 0 % m ≡ 0 = zero-mod m in
      let e' : (eval (number w 0) (lift (all_cells n) sc) (ext live asks r).values).number ≡ 0 = rw (eval-number w 0 (lift (all_cells n) sc) (ext live asks r).values) (zero-mod (2 ^ width_of (width_of w))) in
      rw (run-Assign (record { at = 0; left = left; expr = number w 0 }), e, e') (assigned_both left h 0 asks r)

  one_read : (left : P4Left) → path_free (names left.path) ≡ true → (t : P4Type) (i : P4Expr) (k : ℕ) (asks : Bool) (r : Run)
      → (eval i (lift (all_cells n) sc) (ext live asks r).values).number ≡ k → k < n
      → run_stmt (cells_read left t i) C (ext live asks r) ≡ ext live asks (with_values r (assign sc left (cell_number r.cells (Some k) % 2 ^ type_width sc.types t) r.values))
  one_read left h t i k asks r e l =
      rw (run-cells_read left t i n sc f g (ext live asks r), e, member-all n k l) (assigned_both left h (cell_number r.cells (Some k) % 2 ^ type_width sc.types t) asks r)

  -- a member of an array is read where the array has it, or else 0
  array_read : (left : P4Left) → path_free (names left.path) ≡ true → (t : P4Type) (first size : ℕ) (i : P4Expr) → expr_free i ≡ true → first + size ≤ n → (asks : Bool) (r : Run)
      → (b : Bool) → nat_lt (eval i sc r.values).number size ≡ b
      → run_stmt (read_of sc.types left t first (Some size) (Some i)) C (ext live asks r)
      ≡ ext live asks (with_values r (assign sc left (cell_number r.cells (if b then Some (first + (eval i sc r.values).number) else None) % 2 ^ type_width sc.types t) r.values))
  array_read left h t first size i hi w asks r true e =
      let same : eval i (lift (all_cells n) sc) (ext live asks r).values ≡ eval i sc r.values = eval3 (all_cells n) sc own i hi (truth live) (truth (is_dirty r.delta)) (truth asks) r.values in
      let below : (eval i sc r.values).number < size = ltb-true (eval i sc r.values).number size e in
      let index : (eval (member_index first i) (lift (all_cells n) sc) (ext live asks r).values).number ≡ first + (eval i sc r.values).number =
      rw (eval-member first i (lift (all_cells n) sc) (ext live asks r).values, same) (small_sum first size (eval i sc r.values).number (omega (arith, w, few)) below) in
      rw (
        run-if_so (is_within size i) (cells_read left t (member_index first i) ∷ []) (Some (block (assigned_zero left (type_width sc.types t) ∷ []))) C (ext live asks r),
        eval-within size i (lift (all_cells n) sc) (ext live asks r).values,
        same,
        small size (omega (arith, w, few)),
        e,
      )
      (one_read left h t (member_index first i) (first + (eval i sc r.values).number) asks r index (omega (arith, w, below)))
  array_read left h t first size i hi w asks r false e =
      let same : eval i (lift (all_cells n) sc) (ext live asks r).values ≡ eval i sc r.values = eval3 (all_cells n) sc own i hi (truth live) (truth (is_dirty r.delta)) (truth asks) r.values in
      rw (
        run-if_so (is_within size i) (cells_read left t (member_index first i) ∷ []) (Some (block (assigned_zero left (type_width sc.types t) ∷ []))) C (ext live asks r),
        eval-within size i (lift (all_cells n) sc) (ext live asks r).values,
        same,
        small size (omega (arith, w, few)),
        e,
        run-block 0 (assigned_zero left (type_width sc.types t) ∷ []),
      )
      (zero_assigned left h (type_width sc.types t) (2 ^ type_width sc.types t) asks r)

  read_cases : (left : P4Left) → path_free (names left.path) ≡ true → (t : P4Type) (first : ℕ) (size : Option ℕ) (i : Option P4Expr) → option_free i ≡ true → Within n first size → (asks : Bool) (r : Run)
      → run_stmt (read_of sc.types left t first size i) C (ext live asks r)
      ≡ ext live asks (with_values r (assign sc left (cell_number r.cells (cell_of first size (optional_number i sc r.values)) % 2 ^ type_width sc.types t) r.values))
  read_cases left h t first None i hi w asks r =
      let e : (eval (number 16 first) (lift (all_cells n) sc) (ext live asks r).values).number ≡ first = rw (eval-number 16 first (lift (all_cells n) sc) (ext live asks r).values) (small first (omega (arith, w, few))) in
      one_read left h t (number 16 first) first asks r e w
  read_cases left h t first (Some size) None hi w asks r = zero_assigned left h (type_width sc.types t) (2 ^ type_width sc.types t) asks r
  read_cases left h t first (Some size) (Some i) hi w asks r = array_read left h t first size i hi w asks r (nat_lt (eval i sc r.values).number size) refl

  -- a read, whatever its name stands for
  pub read3 : (x : P4Read) → path_free (names x.left.path) ≡ true → option_free x.expr ≡ true → (o : Option Register) → ((g' : Register) → o ≡ Some g' → Within n g'.first g'.size) → (asks : Bool) (r : Run)
      → in_turn (map run_stmt (new_read sc.types x o)) C (ext live asks r) ≡ ext live asks (read_from sc x o r)
  read3 x h hi None w asks r = refl
  read3 x h hi (Some g') w asks r =
      let e : type_width sc.types (cast_type x.type_ g'.width) ≡ read_width sc g' x.type_ = cast_width sc g' x.type_ in
      read_cases x.left h (cast_type x.type_ g'.width) g'.first g'.size x.expr hi (w g' refl) asks r
      ∙ ap (λ (k : ℕ). ext live asks (with_values r (assign sc x.left (cell_number r.cells (cell_of g'.first g'.size (optional_number x.expr sc r.values)) % 2 ^ k) r.values))) e

  array_write : (first size : ℕ) (i v : P4Expr) → expr_free i ≡ true → expr_free v ≡ true → first + size ≤ n → (asks : Bool) (r : Run)
      → (b : Bool) → nat_lt (eval i sc r.values).number size ≡ b
      → in_turn (map run_stmt (write_of first (Some size) i (Some v))) C (ext live asks r)
      ≡ ext live asks (store (if b then Some (first + (eval i sc r.values).number) else None) ((eval v sc r.values).number % 2 ^ 64) r)
  array_write first size i v hi hv w asks r true e =
      let same : eval i (lift (all_cells n) sc) (ext live asks r).values ≡ eval i sc r.values = eval3 (all_cells n) sc own i hi (truth live) (truth (is_dirty r.delta)) (truth asks) r.values in
      let same' : eval v (lift (all_cells n) sc) (ext live asks r).values ≡ eval v sc r.values = eval3 (all_cells n) sc own v hv (truth live) (truth (is_dirty r.delta)) (truth asks) r.values in
      let below : (eval i sc r.values).number < size = ltb-true (eval i sc r.values).number size e in
      let index : (eval (member_index first i) (lift (all_cells n) sc) (ext live asks r).values).number ≡ first + (eval i sc r.values).number =
      rw (eval-member first i (lift (all_cells n) sc) (ext live asks r).values, same) (small_sum first size (eval i sc r.values).number (omega (arith, w, few)) below) in
      rw (
        run-if_so (is_within size i) (cells_written (member_index first i) v) None C (ext live asks r),
        eval-within size i (lift (all_cells n) sc) (ext live asks r).values,
        same,
        small size (omega (arith, w, few)),
        e,
        sym same',
      )
      (run-cells_written (member_index first i) v n (first + (eval i sc r.values).number) sc f g live asks r index (omega (arith, w, below)))
  array_write first size i v hi hv w asks r false e =
      let same : eval i (lift (all_cells n) sc) (ext live asks r).values ≡ eval i sc r.values = eval3 (all_cells n) sc own i hi (truth live) (truth (is_dirty r.delta)) (truth asks) r.values in
      rw (
        run-if_so (is_within size i) (cells_written (member_index first i) v) None C (ext live asks r),
        eval-within size i (lift (all_cells n) sc) (ext live asks r).values,
        same,
        small size (omega (arith, w, few)),
        e,
      )
      refl

  write_cases : (first : ℕ) (size : Option ℕ) (e : P4Expr) (second : Option P4Expr) → expr_free e ≡ true → option_free second ≡ true → Within n first size → (asks : Bool) (r : Run)
      → in_turn (map run_stmt (write_of first size e second)) C (ext live asks r) ≡ ext live asks (write_cell sc first size e second r)
  write_cases first None e second he hs w asks r =
      let k : (eval (number 16 first) (lift (all_cells n) sc) (ext live asks r).values).number ≡ first = rw (eval-number 16 first (lift (all_cells n) sc) (ext live asks r).values) (small first (omega (arith, w, few))) in
      let same : eval e (lift (all_cells n) sc) (ext live asks r).values ≡ eval e sc r.values = eval3 (all_cells n) sc own e he (truth live) (truth (is_dirty r.delta)) (truth asks) r.values in
      rw (sym same) (run-cells_written (number 16 first) e n first sc f g live asks r k w)
  write_cases first (Some size) e None he hs w asks r = refl
  write_cases first (Some size) e (Some v) he hs w asks r = array_write first size e v he hs w asks r (nat_lt (eval e sc r.values).number size) refl

  -- a write, whatever its name stands for
  pub write3 : (x : P4Write) → expr_free x.expr ≡ true → option_free x.second ≡ true → (o : Option Register) → ((g' : Register) → o ≡ Some g' → Within n g'.first g'.size) → (asks : Bool) (r : Run)
      → in_turn (map run_stmt (new_write x o)) C (ext live asks r) ≡ ext live asks (write_to sc x o r)
  write3 x he hs None w asks r = refl
  write3 x he hs (Some g') w asks r = write_cases g'.first g'.size x.expr x.second he hs (w g' refl) asks r
