-- The scope of a rewritten program, and the values of paths and expressions in it.
use Rattle.std.proofs.Common.{◌≡◌, ℕ, suc, Bool, true, false, ◌&&◌, List, [], ◌∷◌, Option, Some, None, refl, sym, ap, ◌∙◌, codes, option_map}
use Rattle.std.proofs.lemmas.Bool.{and_parts, not-true}
use Rattle.p4_ast.specs.declared.name.P4Path.{P4Path}
use Rattle.p4_ast.specs.declared.name.P4Slice.{P4Slice}
use Rattle.p4_ast.specs.declared.declaration.P4Type.{P4Type}
use Rattle.p4_ast.specs.declared.expression.P4BinaryOp.{P4BinaryOp}
use Rattle.p4_ast.specs.declared.expression.P4UnaryOp.{P4UnaryOp}
use Rattle.p4_ast.specs.declared.expression.P4Expr.{P4Expr}
use Rattle.p4_ast.specs.declared.expression.P4Expr.TheVariants as expr
use Rattle.p4_ast.proofs.Folds.{fold_expr-Choice, fold_expr-Binary, fold_expr-Unary, fold_expr-Cast, fold_expr-Slice, fold_expr-Path, fold_expr-IsValid}
use Rattle.p4_ast.proofs.Induction.{expr-ind}
use Rattle.app_data.specs.declared.value.Value.{Value}
use Rattle.app_data.specs.declared.scope.Register.{Register}
use Rattle.app_data.specs.declared.scope.Slot.{Slot}
use Rattle.app_meaning.specs.Slots.{Name, Path, Scope, value_slot, place, own_place, or_else, slot_of, slot_or_constant, path_value, names}
use Rattle.app_meaning.specs.Expressions.{eval}
use Rattle.app_meaning.specs.Statements.{values_of}
use Rattle.app_meaning.proofs.Equations.{eval-Choice, eval-Binary, eval-Unary, eval-Cast, eval-Slice, eval-Number, eval-True, eval-False, eval-Path, eval-IsValid}
use Rattle.app_meaning.specs.Premises.{is_rp, path_free, expr_free, expr_free_step, exprs_free}

abbrev pub rp_slot : Name → Slot
rp_slot field = value_slot (codes "rp" ∷ field ∷ []) 1

abbrev pub all_cells : ℕ → List Register
all_cells n = record { name = codes "rp_cells"; first = 0; size = Some n; width = 64 } ∷ []

-- the scope in which the rewritten program runs, where the source runs in `sc`
abbrev pub lift : List Register → Scope → Scope
lift rs sc =
    record {
      types = sc.types;
      constants = sc.constants;
      registers = rs;
      slots = rp_slot (codes "held") ∷ rp_slot (codes "dirty") ∷ rp_slot (codes "verdict") ∷ sc.slots;
      own = sc.own;
    }

abbrev pub add3 : ℕ → ℕ
add3 i = suc (suc (suc i))

-- the action whose name stands before its own names isn't called `rp`
abbrev pub OwnFree : Option Name → Type 0
OwnFree None = Unit {0}
OwnFree (Some a) = is_rp a ≡ false

thrice : (o : Option ℕ) → option_map suc (option_map suc (option_map suc o)) ≡ option_map add3 o
thrice None = refl
thrice (Some i) = refl

pub place3 : (slots : List Slot) (a b c : Name) (n : Name) (ns : Path) → is_rp n ≡ false → place (rp_slot a ∷ rp_slot b ∷ rp_slot c ∷ slots) (n ∷ ns) ≡ option_map add3 (place slots (n ∷ ns))
place3 slots a b c n ns h = rw (h) (thrice (place slots (n ∷ ns)))

pub own3 : (own : Option Name) (slots : List Slot) (a b c : Name) (n : Name) → OwnFree own → own_place own (rp_slot a ∷ rp_slot b ∷ rp_slot c ∷ slots) n ≡ option_map add3 (own_place own slots n)
own3 None slots a b c n h = refl
own3 (Some action) slots a b c n h = place3 slots a b c action (n ∷ []) h

or_else3 : (x y : Option ℕ) → or_else (option_map add3 x) (option_map add3 y) ≡ option_map add3 (or_else x y)
or_else3 None y = refl
or_else3 (Some i) y = refl

pub slot_of3 : (rs : List Register) (sc : Scope) → OwnFree sc.own → (path : Path) → path_free path ≡ true → slot_of (lift rs sc) path ≡ option_map add3 (slot_of sc path)
slot_of3 rs sc own [] h = refl
slot_of3 rs sc own (x ∷ []) h =
    let outer : place (lift rs sc).slots (x ∷ []) ≡ option_map add3 (place sc.slots (x ∷ [])) = place3 sc.slots (codes "held") (codes "dirty") (codes "verdict") x [] (not-true (is_rp x) h) in
    let inner : own_place sc.own (lift rs sc).slots x ≡ option_map add3 (own_place sc.own sc.slots x) = own3 sc.own sc.slots (codes "held") (codes "dirty") (codes "verdict") x own in
    rw (outer, inner) (or_else3 (own_place sc.own sc.slots x) (place sc.slots (x ∷ [])))
slot_of3 rs sc own (x ∷ y ∷ ys) h = place3 sc.slots (codes "held") (codes "dirty") (codes "verdict") x (y ∷ ys) (not-true (is_rp x) h)

value3 : (rs : List Register) (sc : Scope) (a b c : Value) (vs : List Value) (path : Path) (o : Option ℕ) → slot_or_constant (lift rs sc) (a ∷ b ∷ c ∷ vs) path (option_map add3 o) ≡ slot_or_constant sc vs path o
value3 rs sc a b c vs [] None = refl
value3 rs sc a b c vs (x ∷ []) None = refl
value3 rs sc a b c vs (x ∷ y ∷ ys) None = refl
value3 rs sc a b c vs path (Some i) = refl

module _ (rs : List Register) (sc : Scope) (own : OwnFree sc.own) where
  pub path_value3 : (path : Path) → path_free path ≡ true → (a b c : Value) (vs : List Value) → path_value (lift rs sc) (a ∷ b ∷ c ∷ vs) path ≡ path_value sc vs path
  path_value3 path h a b c vs = ap (slot_or_constant (lift rs sc) (a ∷ b ∷ c ∷ vs) path) (slot_of3 rs sc own path h) ∙ value3 rs sc a b c vs path (slot_of sc path)

  -- an expression has the same value
  abbrev Same : P4Expr → Type 0
  Same e = expr_free e ≡ true → (a b c : Value) (vs : List Value) → eval e (lift rs sc) (a ∷ b ∷ c ∷ vs) ≡ eval e sc vs

  abbrev F : Type 0
  F = Bool

  choice : (at : ℕ) (t x y : P4Expr) → Same t → Same x → Same y → Same (expr.Choice at t x y)
  choice at t x y p q r h a b c vs =
      let e : expr_free (expr.Choice at t x y) ≡ (expr_free t && expr_free x && expr_free y) = fold_expr-Choice Bool expr_free_step at t x y in
      let hs = and_parts (expr_free t && expr_free x) (expr_free y) (sym e ∙ h) in
      let hs' = and_parts (expr_free t) (expr_free x) hs.0 in
      rw (eval-Choice at t x y, p hs'.0 a b c vs, q hs'.1 a b c vs, r hs.1 a b c vs) refl

  binary : (at : ℕ) (op : P4BinaryOp) (x y : P4Expr) → Same x → Same y → Same (expr.Binary at op x y)
  binary at op x y p q h a b c vs =
      let e : expr_free (expr.Binary at op x y) ≡ (expr_free x && expr_free y) = fold_expr-Binary Bool expr_free_step at op x y in
      let hs = and_parts (expr_free x) (expr_free y) (sym e ∙ h) in
      rw (eval-Binary at op x y, p hs.0 a b c vs, q hs.1 a b c vs) refl

  unary : (at : ℕ) (op : P4UnaryOp) (x : P4Expr) → Same x → Same (expr.Unary at op x)
  unary at op x p h a b c vs = rw (eval-Unary at op x, p (sym (fold_expr-Unary Bool expr_free_step at op x) ∙ h) a b c vs) refl

  cast : (at : ℕ) (t : P4Type) (x : P4Expr) → Same x → Same (expr.Cast at t x)
  cast at t x p h a b c vs = rw (eval-Cast at t x, p (sym (fold_expr-Cast Bool expr_free_step at t x) ∙ h) a b c vs) refl

  slice : (at : ℕ) (x : P4Expr) (s : P4Slice) → Same x → Same (expr.Slice at x s)
  slice at x s p h a b c vs = rw (eval-Slice at x s, p (sym (fold_expr-Slice Bool expr_free_step at x s) ∙ h) a b c vs) refl

  path : (at : ℕ) (p : P4Path) → Same (expr.Path at p)
  path at p h a b c vs = rw (eval-Path at p) (path_value3 (names p) (sym (fold_expr-Path Bool expr_free_step at p) ∙ h) a b c vs)

  is_valid : (at : ℕ) (p : P4Path) → Same (expr.IsValid at p)
  is_valid at p h a b c vs = rw (eval-IsValid at p) (path_value3 (names p) (sym (fold_expr-IsValid Bool expr_free_step at p) ∙ h) a b c vs)

  pub eval3 : (e : P4Expr) → Same e
  eval3 = expr-ind Same (record {
    choice = choice;
    binary = binary;
    unary = unary;
    cast = cast;
    slice = slice;
    number = λ at k h a b c vs. rw (eval-Number at k) refl;
    truth = λ at h a b c vs. rw (eval-True at) refl;
    falsehood = λ at h a b c vs. rw (eval-False at) refl;
    path = path;
    is_valid = is_valid;
  })

  pub values_of3 : (es : List P4Expr) → exprs_free es ≡ true → (a b c : Value) (vs : List Value) → values_of es (lift rs sc) (a ∷ b ∷ c ∷ vs) ≡ values_of es sc vs
  values_of3 [] h a b c vs = refl
  values_of3 (e ∷ es) h a b c vs =
      let hs = and_parts (expr_free e) (exprs_free es) h in
      rw (eval3 e hs.0 a b c vs, values_of3 es hs.1 a b c vs) refl
