-- How values change in the scope of a rewritten program: as in the source's, behind the three fields of `rp`.
use Rattle.std.proofs.Common.{◌≡◌, ℕ, zero, suc, Bool, true, false, not, ◌&&◌, List, [], ◌∷◌, Option, Some, None, refl, ap, if◌then◌else◌, codes, option_map, set}
use Rattle.std.proofs.lemmas.Bool.{and_parts, not-true}
use Rattle.p4_ast.specs.declared.name.P4Slice.{P4Slice}
use Rattle.p4_ast.specs.declared.name.P4Left.{P4Left}
use Rattle.p4_ast.specs.declared.declaration.P4Field.{P4Field}
use Rattle.p4_ast.specs.declared.expression.P4Expr.{P4Expr}
use Rattle.p4_ast.specs.declared.control.P4Var.{P4Var}
use Rattle.p4_ast.specs.declared.statement.P4Validity.{P4Validity}
use Rattle.p4_ast.specs.declared.statement.P4Validity.TheVariants as validity
use Rattle.app_data.specs.declared.value.Value.{Value}
use Rattle.app_meaning.specs.Values.{cut, truth, holds}
use Rattle.app_data.specs.declared.scope.Register.{Register}
use Rattle.app_meaning.specs.Slots.{Path, Scope, slot_of, value_in, names, text, type_width}
use Rattle.app_meaning.specs.Assigning.{set_slot, header_of, is_invalid, assign_slot, assign, zeroed, field_count, validate}
use Rattle.app_meaning.specs.Statements.{initial, declare}
use Rattle.app_meaning.specs.Actions.{pass}
use Rattle.app_meaning.specs.Premises.{is_rp, path_free, option_free, fields_free}
use Rattle.rewrite_laws.proofs.Lifted.{lift, add3, OwnFree, place3, slot_of3, eval3}

set_slot3 : (a b c : Value) (vs : List Value) (o : Option ℕ) (v : Value) → set_slot (a ∷ b ∷ c ∷ vs) (option_map add3 o) v ≡ (a ∷ b ∷ c ∷ set_slot vs o v)
set_slot3 a b c vs None v = refl
set_slot3 a b c vs (Some i) v = refl

is_invalid3 : (a b c : Value) (vs : List Value) (o : Option ℕ) → is_invalid (a ∷ b ∷ c ∷ vs) (option_map add3 o) ≡ is_invalid vs o
is_invalid3 a b c vs None = refl
is_invalid3 a b c vs (Some i) = refl

assign_slot3 : (a b c : Value) (vs : List Value) (o : Option ℕ) (s : Option P4Slice) (k : ℕ) → assign_slot (a ∷ b ∷ c ∷ vs) (option_map add3 o) s k ≡ (a ∷ b ∷ c ∷ assign_slot vs o s k)
assign_slot3 a b c vs None s k = refl
assign_slot3 a b c vs (Some i) s k = refl

header_of3 : (rs : List Register) (sc : Scope) (path : Path) → path_free path ≡ true → header_of (lift rs sc) path ≡ option_map add3 (header_of sc path)
header_of3 rs sc [] h = refl
header_of3 rs sc (x ∷ []) h = refl
header_of3 rs sc (x ∷ y ∷ []) h = refl
header_of3 rs sc (x ∷ y ∷ z ∷ []) h = place3 sc.slots (codes "held") (codes "dirty") (codes "verdict") x (y ∷ []) (not-true (is_rp x) h)
header_of3 rs sc (x ∷ y ∷ z ∷ w ∷ ws) h = refl

behind : (a b c : Value) (t : Bool) (x y : List Value) → (if t then a ∷ b ∷ c ∷ x else a ∷ b ∷ c ∷ y) ≡ (a ∷ b ∷ c ∷ (if t then x else y))
behind a b c true x y = refl
behind a b c false x y = refl

zeroed3 : (k i : ℕ) (a b c : Value) (vs : List Value) → zeroed k (add3 i) (a ∷ b ∷ c ∷ vs) ≡ (a ∷ b ∷ c ∷ zeroed k i vs)
zeroed3 zero i a b c vs = refl
zeroed3 (suc k) i a b c vs = zeroed3 k (suc i) a b c (set vs i (cut (value_in vs i).width 0))

validate3 : (rs : List Register) (sc : Scope) (v : P4Validity) (o : Option ℕ) (a b c : Value) (vs : List Value) → validate (lift rs sc) v (option_map add3 o) (a ∷ b ∷ c ∷ vs) ≡ (a ∷ b ∷ c ∷ validate sc v o vs)
validate3 rs sc v None a b c vs = refl
validate3 rs sc validity.SetInvalid (Some i) a b c vs = rw (zeroed3 (field_count sc i) (suc i) a b c vs) refl
validate3 rs sc validity.SetValid (Some i) a b c vs = rw (zeroed3 (field_count sc i) (suc i) a b c vs) (behind a b c (holds (value_in vs i)) vs (set (zeroed (field_count sc i) (suc i) vs) i (truth true)))

module _ (rs : List Register) (sc : Scope) (own : OwnFree sc.own) where
  pub put3 : (path : Path) → path_free path ≡ true → (a b c : Value) (vs : List Value) (v : Value) → set_slot (a ∷ b ∷ c ∷ vs) (slot_of (lift rs sc) path) v ≡ (a ∷ b ∷ c ∷ set_slot vs (slot_of sc path) v)
  put3 path h a b c vs v = rw (slot_of3 rs sc own path h) (set_slot3 a b c vs (slot_of sc path) v)

  pub assign3 : (left : P4Left) → path_free (names left.path) ≡ true → (k : ℕ) (a b c : Value) (vs : List Value) → assign (lift rs sc) left k (a ∷ b ∷ c ∷ vs) ≡ (a ∷ b ∷ c ∷ assign sc left k vs)
  assign3 left h k a b c vs =
      let here : slot_of (lift rs sc) (names left.path) ≡ option_map add3 (slot_of sc (names left.path)) = slot_of3 rs sc own (names left.path) h in
      let header : header_of (lift rs sc) (names left.path) ≡ option_map add3 (header_of sc (names left.path)) = header_of3 rs sc (names left.path) h in
      rw (here, header, is_invalid3 a b c vs (header_of sc (names left.path)), assign_slot3 a b c vs (slot_of sc (names left.path)) left.slice k)
      (behind a b c (is_invalid vs (header_of sc (names left.path))) vs (assign_slot vs (slot_of sc (names left.path)) left.slice k))

  pub initial3 : (o : Option P4Expr) → option_free o ≡ true → (a b c : Value) (vs : List Value) → initial o (lift rs sc) (a ∷ b ∷ c ∷ vs) ≡ initial o sc vs
  initial3 None h a b c vs = refl
  initial3 (Some e) h a b c vs = ap (λ (v : Value). v.number) (eval3 rs sc own e h a b c vs)

  pub declare3 : (v : P4Var) → (path_free (text v.name ∷ []) && option_free v.expr) ≡ true → (a b c : Value) (vs : List Value) → declare (lift rs sc) v (a ∷ b ∷ c ∷ vs) ≡ (a ∷ b ∷ c ∷ declare sc v vs)
  declare3 v h a b c vs =
      let hs = and_parts (path_free (text v.name ∷ [])) (option_free v.expr) h in
      rw (initial3 v.expr hs.1 a b c vs) (put3 (text v.name ∷ []) hs.0 a b c vs (cut (type_width sc.types v.type_) (initial v.expr sc vs)))

  pub valid3 : (v : P4Validity) (path : Path) → path_free path ≡ true → (a b c : Value) (vs : List Value) → validate (lift rs sc) v (slot_of (lift rs sc) path) (a ∷ b ∷ c ∷ vs) ≡ (a ∷ b ∷ c ∷ validate sc v (slot_of sc path) vs)
  valid3 v path h a b c vs = rw (slot_of3 rs sc own path h) (validate3 rs sc v (slot_of sc path) a b c vs)

  pub pass3 : (ps : List P4Field) → fields_free ps ≡ true → (args : List Value) (a b c : Value) (vs : List Value) → pass (lift rs sc) ps args (a ∷ b ∷ c ∷ vs) ≡ (a ∷ b ∷ c ∷ pass sc ps args vs)
  pass3 [] h args a b c vs = refl
  pass3 (p ∷ ps) h [] a b c vs = refl
  pass3 (p ∷ ps) h (v ∷ args) a b c vs =
      let hs = and_parts (not (is_rp (text p.name))) (fields_free ps) h in
      rw (put3 (text p.name ∷ []) hs.0 a b c vs (cut (type_width sc.types p.type_) v.number)) (pass3 ps hs.1 args a b c (set_slot vs (slot_of sc (text p.name ∷ [])) (cut (type_width sc.types p.type_) v.number)))
