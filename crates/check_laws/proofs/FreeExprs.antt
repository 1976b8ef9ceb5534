-- Where `rp` isn't visible no expression without a fault names it, and the widths of literals change no name.
use Rattle.std.proofs.Common.{◌≡◌, ℕ, ◌+◌, ◌^◌, Bool, true, false, ◌&&◌, not, nat_le, ◌==◌, List, [], ◌∷◌, map, Option, Some, None, refl, sym, ap, ◌∙◌, subst, if◌then◌else◌, codes}
use Rattle.std.specs.Prelude.{bytes_eq}
use Rattle.std.specs.Cmp.Derive.{both_true}
use Rattle.rp_base.specs.declared.refused.Why.{Why}
use Rattle.rp_base.specs.declared.refused.Why.TheVariants as why
use Rattle.p4_ast.specs.declared.name.P4Name.{P4Name}
use Rattle.p4_ast.specs.declared.name.P4Number.{P4Number}
use Rattle.p4_ast.specs.declared.name.P4Path.{P4Path}
use Rattle.p4_ast.specs.declared.name.P4Slice.{P4Slice}
use Rattle.p4_ast.specs.declared.name.P4Left.{P4Left}
use Rattle.p4_ast.specs.declared.declaration.P4Type.{P4Type}
use Rattle.p4_ast.specs.declared.expression.P4BinaryOp.{P4BinaryOp}
use Rattle.p4_ast.specs.declared.expression.P4BinaryOp.TheVariants as binary
use Rattle.p4_ast.specs.declared.expression.P4UnaryOp.{P4UnaryOp}
use Rattle.p4_ast.specs.declared.expression.P4UnaryOp.TheVariants as unary
use Rattle.p4_ast.specs.declared.expression.P4Expr.{P4Expr}
use Rattle.p4_ast.specs.declared.expression.P4Expr.TheVariants as expr
use Rattle.p4_ast.proofs.Folds.{fold_expr-Choice, fold_expr-Binary, fold_expr-Unary, fold_expr-Cast, fold_expr-Slice, fold_expr-Number, fold_expr-True, fold_expr-False, fold_expr-Path, fold_expr-IsValid}
use Rattle.p4_ast.proofs.Induction.{ExprCases, expr-ind}
use Rattle.p4_scope.specs.declared.kind.Kind.{Kind}
use Rattle.p4_scope.specs.declared.kind.Kind.TheVariants as kind
use Rattle.p4_scope.specs.declared.thing.Thing.{Thing}
use Rattle.p4_scope.specs.Faults.{Fault, first_of, fault, fault_if}
use Rattle.p4_scope.specs.Scopes.{Scope, find}
use Rattle.p4_scope.specs.Types.{is_width}
use Rattle.p4_scope.specs.Paths.{field, behind, value_kind, names_kind, path_kind, header_fault, header_path, is_fixed, root}
use Rattle.p4_typing.specs.declared.form.Form.{Form}
use Rattle.p4_typing.specs.declared.form.Form.TheVariants as form
use Rattle.p4_typing.specs.declared.part.Typed.{Typed}
use Rattle.p4_typing.specs.declared.part.Operands.{Operands}
use Rattle.p4_typing.specs.Expressions.{number_taken, taken, typed_as, failed, sized, placeless, expected_by, expected, bits_by, as_bits, alone_by, bits_alone, operands, alike_by, alike, compared_by, compared, eight_by, shift_side, shifted, joined_by, bools, operated, form_by, literal_by, prefixed, cast_operand, cast, slice_form, type_form, path_form, typed, at_place, cut_left, is_clean, left_form}
use Rattle.p4_typing.proofs.Equations.{taken-Choice, taken-Binary, taken-Unary, taken-Cast, taken-Slice, taken-Number, taken-True, taken-False, taken-Path, taken-IsValid, typed-Choice, typed-Binary, typed-Unary, typed-Cast, typed-Slice, typed-Number, typed-True, typed-False, typed-Path, typed-IsValid}
use Rattle.app_meaning.specs.Slots.{names}
use Rattle.app_meaning.specs.Premises.{path_free, expr_free_step, expr_free}
use Rattle.check_laws.proofs.Clean.{clean_both, not_clean, same_text}
use Rattle.check_laws.proofs.Onward.{NoRp}

-- ---- what no name of an expression is, one equation a variant

free-Choice : (at : ℕ) (t x y : P4Expr) → expr_free (expr.Choice at t x y) ≡ (expr_free t && expr_free x && expr_free y)
free-Choice at t x y = fold_expr-Choice Bool expr_free_step at t x y

free-Binary : (at : ℕ) (op : P4BinaryOp) (x y : P4Expr) → expr_free (expr.Binary at op x y) ≡ (expr_free x && expr_free y)
free-Binary at op x y = fold_expr-Binary Bool expr_free_step at op x y

free-Unary : (at : ℕ) (op : P4UnaryOp) (x : P4Expr) → expr_free (expr.Unary at op x) ≡ expr_free x
free-Unary at op x = fold_expr-Unary Bool expr_free_step at op x

free-Cast : (at : ℕ) (t : P4Type) (x : P4Expr) → expr_free (expr.Cast at t x) ≡ expr_free x
free-Cast at t x = fold_expr-Cast Bool expr_free_step at t x

free-Slice : (at : ℕ) (x : P4Expr) (s : P4Slice) → expr_free (expr.Slice at x s) ≡ expr_free x
free-Slice at x s = fold_expr-Slice Bool expr_free_step at x s

free-Number : (at : ℕ) (n : P4Number) → expr_free (expr.Number at n) ≡ true
free-Number at n = fold_expr-Number Bool expr_free_step at n

free-True : (at : ℕ) → expr_free (expr.True at) ≡ true
free-True at = fold_expr-True Bool expr_free_step at

free-False : (at : ℕ) → expr_free (expr.False at) ≡ true
free-False at = fold_expr-False Bool expr_free_step at

free-Path : (at : ℕ) (p : P4Path) → expr_free (expr.Path at p) ≡ path_free (names p)
free-Path at p = fold_expr-Path Bool expr_free_step at p

free-IsValid : (at : ℕ) (p : P4Path) → expr_free (expr.IsValid at p) ≡ path_free (names p)
free-IsValid at p = fold_expr-IsValid Bool expr_free_step at p

-- ---- widths that literals take

number_free : (at : ℕ) (n : P4Number) (v w : Option ℕ) → expr_free (number_taken at n v w).1 ≡ true
number_free at n (Some v) w = free-Number at n
number_free at n None None = free-Number at n
number_free at n None (Some w) = free-Number at (record n { width = Some w })

taken_cases : ExprCases (λ e. (w : Option ℕ) → expr_free (taken e w).1 ≡ expr_free e)
taken_cases = record {
  choice = λ at t x y pt px py w. rw (taken-Choice at t x y w, free-Choice at t (taken x w).1 (taken y w).1, free-Choice at t x y, px w, py w) refl;
  binary = λ at op x y px py w. rw (taken-Binary at op x y w, free-Binary at op (taken x w).1 (taken y w).1, free-Binary at op x y, px w, py w) refl;
  unary = λ at op x px w. rw (taken-Unary at op x w, free-Unary at op (taken x w).1, free-Unary at op x, px w) refl;
  cast = λ at t x px w. ap (λ (r : Fault × P4Expr). expr_free r.1) (taken-Cast at t x w);
  slice = λ at x s px w. ap (λ (r : Fault × P4Expr). expr_free r.1) (taken-Slice at x s w);
  number = λ at n w. ap (λ (r : Fault × P4Expr). expr_free r.1) (taken-Number at n w) ∙ (number_free at n n.width w ∙ sym (free-Number at n));
  truth = λ at w. ap (λ (r : Fault × P4Expr). expr_free r.1) (taken-True at w);
  falsehood = λ at w. ap (λ (r : Fault × P4Expr). expr_free r.1) (taken-False at w);
  path = λ at p w. ap (λ (r : Fault × P4Expr). expr_free r.1) (taken-Path at p w);
  is_valid = λ at p w. ap (λ (r : Fault × P4Expr). expr_free r.1) (taken-IsValid at p w);
}

taken_free : (e : P4Expr) (w : Option ℕ) → expr_free (taken e w).1 ≡ expr_free e
taken_free = expr-ind (λ e. (w : Option ℕ) → expr_free (taken e w).1 ≡ expr_free e) taken_cases

-- ---- parts

-- without a fault no name of it is `rp`
abbrev IsFree : Typed → Type 0
IsFree t = t.fault ≡ None → expr_free t.expr ≡ true

-- the same of two operands
abbrev AreFree : Operands → Type 0
AreFree o = o.fault ≡ None → (expr_free o.left ≡ true) × (expr_free o.right ≡ true)

failed_free : (w : Why) (t : Typed) → IsFree t → IsFree (failed w t)
failed_free w t h c = h (clean_both t.fault (fault w t.at) c).0

sized_free : (w : ℕ) (t : Typed) → IsFree t → IsFree (sized w t)
sized_free w t h c = taken_free t.expr (Some w) ∙ h (clean_both t.fault (taken t.expr (Some w)).0 c).0

placeless_free : (t : Typed) → IsFree t → IsFree (placeless t)
placeless_free t h c = taken_free t.expr None ∙ h (clean_both t.fault (taken t.expr None).0 c).0

either_free : (b : Bool) (x y : Typed) → IsFree x → IsFree y → IsFree (if b then x else y)
either_free true x y hx hy = hx
either_free false x y hx hy = hy

expected_by_free : (wanted given : Form) (t : Typed) → IsFree t → IsFree (expected_by wanted given t)
expected_by_free form.Failed given t h = h
expected_by_free (form.Bits w) form.Failed t h = h
expected_by_free (form.Bits w) form.Open t h = sized_free w t h
expected_by_free (form.Bits w) (form.Bits v) t h = either_free (w == v) t (failed why.Width t) h (failed_free why.Width t h)
expected_by_free (form.Bits w) form.Bool t h = failed_free why.Kind t h
expected_by_free form.Bool form.Failed t h = h
expected_by_free form.Bool form.Bool t h = h
expected_by_free form.Bool given t h = failed_free why.Kind t h
expected_by_free form.Open form.Failed t h = h
expected_by_free form.Open given t h = failed_free why.Kind t h

expected_free : (wanted : Form) (t : Typed) → IsFree t → IsFree (expected wanted t)
expected_free wanted t h = expected_by_free wanted t.form t h

bits_by_free : (k : Form) (t : Typed) → IsFree t → IsFree (bits_by k t)
bits_by_free form.Bool t h = failed_free why.Kind t h
bits_by_free k t h = h

as_bits_free : (t : Typed) → IsFree t → IsFree (as_bits t)
as_bits_free t h = bits_by_free t.form t h

alone_by_free : (k : Form) (t : Typed) → IsFree t → IsFree (alone_by k t)
alone_by_free form.Bool t h = failed_free why.Kind t h
alone_by_free form.Open t h = placeless_free t h
alone_by_free k t h = h

alone_free : (t : Typed) → IsFree t → IsFree (bits_alone t)
alone_free t h = alone_by_free t.form t h

eight_by_free : (k : Form) (t : Typed) → IsFree t → IsFree (eight_by k t)
eight_by_free form.Open t h = sized_free 8 t h
eight_by_free form.Bool t h = failed_free why.Kind t h
eight_by_free k t h = h

-- ---- two operands

operands_free : (k : Form) (l r : Typed) → IsFree l → IsFree r → AreFree (operands k l r)
operands_free k l r hl hr c = let p = clean_both l.fault r.fault c in (hl p.0, hr p.1)

either_are_free : (b : Bool) (x y : Operands) → AreFree x → AreFree y → AreFree (if b then x else y)
either_are_free true x y hx hy = hx
either_are_free false x y hx hy = hy

module _ (l r : Typed) (hl : IsFree l) (hr : IsFree r) where
  alike_by_free : (j k : Form) → AreFree (alike_by j k l r)
  alike_by_free form.Failed k = operands_free form.Failed l r hl hr
  alike_by_free (form.Bits w) form.Failed = operands_free form.Failed l r hl hr
  alike_by_free (form.Bits w) (form.Bits v) =
      either_are_free (w == v) (operands (form.Bits w) l r) (operands form.Failed (failed why.Width l) r) (operands_free (form.Bits w) l r hl hr)
      (operands_free form.Failed (failed why.Width l) r (failed_free why.Width l hl) hr)
  alike_by_free (form.Bits w) form.Open = operands_free (form.Bits w) l (sized w r) hl (sized_free w r hr)
  alike_by_free (form.Bits w) form.Bool = operands_free form.Failed (failed why.Kind l) r (failed_free why.Kind l hl) hr
  alike_by_free form.Open form.Failed = operands_free form.Failed l r hl hr
  alike_by_free form.Open (form.Bits w) = operands_free (form.Bits w) (sized w l) r (sized_free w l hl) hr
  alike_by_free form.Open form.Open = operands_free form.Open l r hl hr
  alike_by_free form.Open form.Bool = operands_free form.Failed (failed why.Kind l) r (failed_free why.Kind l hl) hr
  alike_by_free form.Bool form.Failed = operands_free form.Failed l r hl hr
  alike_by_free form.Bool form.Bool = operands_free form.Bool l r hl hr
  alike_by_free form.Bool k = operands_free form.Failed (failed why.Kind l) r (failed_free why.Kind l hl) hr

  compared_by_free : (j k : Form) → AreFree (compared_by j k l r)
  compared_by_free form.Open form.Open = operands_free form.Bool (placeless l) (placeless r) (placeless_free l hl) (placeless_free r hr)
  compared_by_free j k = alike_by_free j k

  joined_by_free : (j k : Form) (at : ℕ) → AreFree (joined_by j k at l r)
  joined_by_free (form.Bits w) (form.Bits v) at =
      either_are_free (nat_le (w + v) 128) (operands (form.Bits (w + v)) l r) (record (operands form.Failed l r) { fault = first_of (first_of l.fault r.fault) (fault why.Width at) })
      (operands_free (form.Bits (w + v)) l r hl hr)
      (λ c. operands_free form.Failed l r hl hr (clean_both (first_of l.fault r.fault) (fault why.Width at) c).0)
  joined_by_free j k at = operands_free form.Failed l r hl hr

bools_free : (l r : Typed) → IsFree l → IsFree r → AreFree (bools l r)
bools_free l r hl hr = operands_free form.Bool (expected form.Bool l) (expected form.Bool r) (expected_free form.Bool l hl) (expected_free form.Bool r hr)

compared_free : (l r : Typed) → IsFree l → IsFree r → AreFree (compared l r)
compared_free l r hl hr = compared_by_free l r hl hr l.form r.form

ordered_free : (l r : Typed) → IsFree l → IsFree r → AreFree (compared (as_bits l) (as_bits r))
ordered_free l r hl hr = compared_free (as_bits l) (as_bits r) (as_bits_free l hl) (as_bits_free r hr)

shifted_free : (l r : Typed) → IsFree l → IsFree r → AreFree (shifted (shift_side l) (shift_side r))
shifted_free l r hl hr = operands_free (shift_side l).form (shift_side l) (shift_side r) (eight_by_free l.form l hl) (eight_by_free r.form r hr)

alike_free : (l r : Typed) → IsFree l → IsFree r → AreFree (alike l r)
alike_free l r hl hr = alike_by_free l r hl hr l.form r.form

operated_free : (op : P4BinaryOp) (at : ℕ) (l r : Typed) → IsFree l → IsFree r → AreFree (operated op at l r)
operated_free binary.Or at l r hl hr = bools_free l r hl hr
operated_free binary.And at l r hl hr = bools_free l r hl hr
operated_free binary.Equal at l r hl hr = compared_free l r hl hr
operated_free binary.NotEqual at l r hl hr = compared_free l r hl hr
operated_free binary.Less at l r hl hr = ordered_free l r hl hr
operated_free binary.LessEqual at l r hl hr = ordered_free l r hl hr
operated_free binary.More at l r hl hr = ordered_free l r hl hr
operated_free binary.MoreEqual at l r hl hr = ordered_free l r hl hr
operated_free binary.ShiftLeft at l r hl hr = shifted_free l r hl hr
operated_free binary.ShiftRight at l r hl hr = shifted_free l r hl hr
operated_free binary.Concat at l r hl hr =
    joined_by_free (bits_alone l) (bits_alone r) (alone_free l hl) (alone_free r hr) (bits_alone l).form (bits_alone r).form at
operated_free op at l r hl hr = alike_free (as_bits l) (as_bits r) (as_bits_free l hl) (as_bits_free r hr)

-- ---- paths

behind_clean : (k : Fault × Kind) (xs : List P4Name) (s : Scope) → (behind k xs s).0 ≡ None → k.0 ≡ None
behind_clean k [] s h = h
behind_clean k (x ∷ xs) s h = (clean_both k.0 (field k.1 x s).0 (behind_clean (first_of k.0 (field k.1 x s).0, (field k.1 x s).1) xs s h)).0

-- a name that is found isn't `rp`
found_free : (x : P4Name) (s : Scope) → NoRp s → (value_kind x (find x.text s)).0 ≡ None → not (bytes_eq (codes "rp") x.text) ≡ true
found_free x s n h = by (bytes_eq (codes "rp") x.text) refl
  where
    by : (b : Bool) → bytes_eq (codes "rp") x.text ≡ b → not b ≡ true
    by false e = refl
    by true e =
        let lost : find x.text s ≡ None = ap (λ y. find y s) (sym (same_text (codes "rp") x.text e)) ∙ n in
        absurd (not_clean why.Unknown x.at (sym (ap (λ (o : Option Thing). (value_kind x o).0) lost) ∙ h))

names_free : (at : ℕ) (xs : List P4Name) (s : Scope) → NoRp s → (names_kind at xs s).0 ≡ None → path_free (map (λ x. x.text) xs) ≡ true
names_free at [] s n h = refl
names_free at (x ∷ xs) s n h = found_free x s n (behind_clean (value_kind x (find x.text s)) xs s h)

pub known_path : (p : P4Path) (s : Scope) → NoRp s → (path_kind p s).0 ≡ None → path_free (names p) ≡ true
known_path p s n h = names_free p.at p.names s n h

form_clean : (at : ℕ) (f : Fault) (k : Kind) → (form_by at f k).0 ≡ None → f ≡ None
form_clean at f (kind.Bits w) h = h
form_clean at f kind.Bool h = h
form_clean at f kind.Failed h = h
form_clean at f k h = (clean_both f (fault why.Kind at) h).0

header_clean : (at : ℕ) (f : Fault) (k : Kind) → header_fault at f k ≡ None → f ≡ None
header_clean at f (kind.Header n) h = h
header_clean at f kind.Failed h = h
header_clean at f k h = (clean_both f (fault why.Kind at) h).0

pub header_free : (p : P4Path) (s : Scope) → NoRp s → header_path p s ≡ None → path_free (names p) ≡ true
header_free p s n h = known_path p s n (header_clean p.at (path_kind p s).0 (path_kind p s).1 h)

-- ---- expressions

literal_free : (w : Option ℕ) (at : ℕ) (n : P4Number) → IsFree (literal_by w at n)
literal_free None at n = λ c. free-Number at n
literal_free (Some w) at n =
    either_free (is_width w) (typed_as at (fault_if (nat_le (2 ^ w) n.value) why.Fit n.at) (form.Bits w) (expr.Number at n)) (typed_as at (fault why.Width n.at) form.Failed (expr.Number at n))
    (λ c. free-Number at n) (λ c. free-Number at n)

prefixed_free : (at : ℕ) (op : P4UnaryOp) (t : Typed) → IsFree t → IsFree (prefixed at op t)
prefixed_free at unary.Not t h c = free-Unary at unary.Not (expected form.Bool t).expr ∙ expected_free form.Bool t h c
prefixed_free at op t h c = free-Unary at op (as_bits t).expr ∙ as_bits_free t h c

cast_operand_free : (to from : Form) (t : Typed) → IsFree t → IsFree (cast_operand to from t)
cast_operand_free (form.Bits w) form.Open t h = sized_free w t h
cast_operand_free (form.Bits w) form.Bool t h = either_free (w == 1) t (failed why.Kind t) h (failed_free why.Kind t h)
cast_operand_free form.Bool form.Open t h = placeless_free t h
cast_operand_free form.Bool (form.Bits w) t h = either_free (w == 1) t (failed why.Kind t) h (failed_free why.Kind t h)
cast_operand_free to from t h = h

cast_free : (at : ℕ) (type : P4Type) (to : Fault × Form) (t : Typed) → IsFree t → IsFree (cast at type to t)
cast_free at type to t h c =
    let x : Typed = cast_operand to.1 t.form t in
    free-Cast at type x.expr ∙ cast_operand_free to.1 t.form t h (clean_both to.0 x.fault c).1

-- without a fault an expression doesn't name `rp`
abbrev Typing : P4Expr → Type 0
Typing e = (s : Scope) → NoRp s → IsFree (typed e s)

typing_cases : ExprCases Typing
typing_cases = record {
  choice = λ at t x y pt px py s n.
      let o : Operands = alike (typed x s) (typed y s) in
      let test : Typed = expected form.Bool (typed t s) in
      subst IsFree (sym (typed-Choice at t x y s))
      (λ c.
      let f = clean_both test.fault o.fault c in
      let both = alike_free (typed x s) (typed y s) (px s n) (py s n) f.1 in
      free-Choice at test.expr o.left o.right ∙ both_true (both_true (expected_free form.Bool (typed t s) (pt s n) f.0) both.0) both.1);
  binary = λ at op x y px py s n.
      let o : Operands = operated op at (typed x s) (typed y s) in
      subst IsFree (sym (typed-Binary at op x y s))
      (λ c. let both = operated_free op at (typed x s) (typed y s) (px s n) (py s n) c in free-Binary at op o.left o.right ∙ both_true both.0 both.1);
  unary = λ at op x px s n. subst IsFree (sym (typed-Unary at op x s)) (prefixed_free at op (typed x s) (px s n));
  cast = λ at t x px s n. subst IsFree (sym (typed-Cast at t x s)) (cast_free at t (type_form t s) (typed x s) (px s n));
  slice = λ at x sl px s n.
      let t : Typed = bits_alone (typed x s) in
      subst IsFree (sym (typed-Slice at x sl s))
      (λ c. free-Slice at t.expr sl ∙ alone_free (typed x s) (px s n) (clean_both t.fault (slice_form sl t.form).0 c).0);
  number = λ at m s n. subst IsFree (sym (typed-Number at m s)) (literal_free m.width at m);
  truth = λ at s n. subst IsFree (sym (typed-True at s)) (λ c. free-True at);
  falsehood = λ at s n. subst IsFree (sym (typed-False at s)) (λ c. free-False at);
  path = λ at p s n.
      subst IsFree (sym (typed-Path at p s)) (λ c. free-Path at p ∙ known_path p s n (form_clean at (path_kind p s).0 (path_kind p s).1 c));
  is_valid = λ at p s n. subst IsFree (sym (typed-IsValid at p s)) (λ c. free-IsValid at p ∙ header_free p s n c);
}

pub typed_free : (e : P4Expr) (s : Scope) → NoRp s → (typed e s).fault ≡ None → expr_free (typed e s).expr ≡ true
typed_free = expr-ind Typing typing_cases

pub placed_free : (wanted : Form) (e : P4Expr) (s : Scope) → NoRp s → (at_place wanted e s).fault ≡ None → expr_free (at_place wanted e s).expr ≡ true
placed_free wanted e s n = expected_free wanted (typed e s) (typed_free e s n)

pub bits_free : (e : P4Expr) (s : Scope) → NoRp s → (bits_alone (typed e s)).fault ≡ None → expr_free (bits_alone (typed e s)).expr ≡ true
bits_free e s n = alone_free (typed e s) (typed_free e s n)

-- ---- left sides

cut_clean : (slice : Option P4Slice) (at : ℕ) (f : Fault) (k : Form) → (cut_left slice at (f, k)).0 ≡ None → f ≡ None
cut_clean None at f k h = h
cut_clean (Some sl) at f form.Bool h = (clean_both f (fault why.Kind at) h).0
cut_clean (Some sl) at f k h = (clean_both f (slice_form sl k).0 h).0

pub left_free : (l : P4Left) (s : Scope) → NoRp s → (left_form l s).0 ≡ None → path_free (names l.path) ≡ true
left_free l s n h =
    let k : Fault × Form = path_form l.path.at l.path s in
    let fixed : Bool = is_clean (path_kind l.path s).0 && is_fixed (root l.path.names s) in
    let bad : Fault = fault_if fixed why.Kind l.path.at in
    let f = clean_both k.0 bad (cut_clean l.slice l.path.at (first_of k.0 bad) k.1 h) in
    known_path l.path s n (form_clean l.path.at (path_kind l.path s).0 (path_kind l.path s).1 f.0)
