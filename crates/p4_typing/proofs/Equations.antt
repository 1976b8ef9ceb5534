-- The definitions on expressions, one equation a variant.
use Rattle.std.proofs.Common.{ℕ, ◌≡◌, Option, None, ap, sym, ◌∙◌}
use Rattle.p4_ast.specs.declared.name.P4Number.{P4Number}
use Rattle.p4_ast.specs.declared.name.P4Path.{P4Path}
use Rattle.p4_ast.specs.declared.name.P4Slice.{P4Slice}
use Rattle.p4_ast.specs.declared.declaration.P4Type.{P4Type}
use Rattle.p4_ast.specs.declared.expression.P4BinaryOp.{P4BinaryOp}
use Rattle.p4_ast.specs.declared.expression.P4UnaryOp.{P4UnaryOp}
use Rattle.p4_ast.specs.declared.expression.P4Expr.{P4Expr, fold-roll-P4Expr, para-roll-P4Expr}
use Rattle.p4_ast.specs.declared.expression.P4Expr.TheOpen as layer
use Rattle.p4_ast.specs.declared.expression.P4Expr.TheVariants as expr
use Rattle.p4_typing.specs.declared.form.Form.TheVariants as form
use Rattle.p4_typing.specs.declared.part.Typed.{Typed}
use Rattle.p4_scope.specs.Faults.{first_of}
use Rattle.p4_scope.specs.Scopes.{Scope}
use Rattle.p4_scope.specs.Paths.{header_path}
use Rattle.p4_typing.specs.Expressions.{Taking, number_taken, taken_step, taken, typed_step, typed, chosen, operation, operated, prefixed, cast, sliced, bits_alone, literal_by, typed_as, valued, path_form, type_form, expected, alike}

pub taken-Choice : (at : ℕ) (test first second : P4Expr) (w : Option ℕ) → taken (expr.Choice at test first second) w ≡ (first_of (taken first w).0 (taken second w).0, expr.Choice at test (taken first w).1 (taken second w).1)
taken-Choice at test first second w = ap (λ e. taken e w) (sym (expr.rolls-Choice at test first second)) ∙ ap (λ f. f w) (para-roll-P4Expr Taking taken_step (layer.Choice at test first second))

pub taken-Binary : (at : ℕ) (op : P4BinaryOp) (left right : P4Expr) (w : Option ℕ) → taken (expr.Binary at op left right) w ≡ (first_of (taken left w).0 (taken right w).0, expr.Binary at op (taken left w).1 (taken right w).1)
taken-Binary at op left right w = ap (λ e. taken e w) (sym (expr.rolls-Binary at op left right)) ∙ ap (λ f. f w) (para-roll-P4Expr Taking taken_step (layer.Binary at op left right))

pub taken-Unary : (at : ℕ) (op : P4UnaryOp) (x : P4Expr) (w : Option ℕ) → taken (expr.Unary at op x) w ≡ ((taken x w).0, expr.Unary at op (taken x w).1)
taken-Unary at op x w = ap (λ e. taken e w) (sym (expr.rolls-Unary at op x)) ∙ ap (λ f. f w) (para-roll-P4Expr Taking taken_step (layer.Unary at op x))

pub taken-Cast : (at : ℕ) (t : P4Type) (x : P4Expr) (w : Option ℕ) → taken (expr.Cast at t x) w ≡ (None, expr.Cast at t x)
taken-Cast at t x w = ap (λ e. taken e w) (sym (expr.rolls-Cast at t x)) ∙ ap (λ f. f w) (para-roll-P4Expr Taking taken_step (layer.Cast at t x))

pub taken-Slice : (at : ℕ) (x : P4Expr) (slice : P4Slice) (w : Option ℕ) → taken (expr.Slice at x slice) w ≡ (None, expr.Slice at x slice)
taken-Slice at x slice w = ap (λ e. taken e w) (sym (expr.rolls-Slice at x slice)) ∙ ap (λ f. f w) (para-roll-P4Expr Taking taken_step (layer.Slice at x slice))

pub taken-Number : (at : ℕ) (n : P4Number) (w : Option ℕ) → taken (expr.Number at n) w ≡ number_taken at n n.width w
taken-Number at n w = ap (λ e. taken e w) (sym (expr.rolls-Number at n)) ∙ ap (λ f. f w) (para-roll-P4Expr Taking taken_step (layer.Number at n))

pub taken-True : (at : ℕ) (w : Option ℕ) → taken (expr.True at) w ≡ (None, expr.True at)
taken-True at w = ap (λ e. taken e w) (sym (expr.rolls-True at)) ∙ ap (λ f. f w) (para-roll-P4Expr Taking taken_step (layer.True at))

pub taken-False : (at : ℕ) (w : Option ℕ) → taken (expr.False at) w ≡ (None, expr.False at)
taken-False at w = ap (λ e. taken e w) (sym (expr.rolls-False at)) ∙ ap (λ f. f w) (para-roll-P4Expr Taking taken_step (layer.False at))

pub taken-Path : (at : ℕ) (path : P4Path) (w : Option ℕ) → taken (expr.Path at path) w ≡ (None, expr.Path at path)
taken-Path at path w = ap (λ e. taken e w) (sym (expr.rolls-Path at path)) ∙ ap (λ f. f w) (para-roll-P4Expr Taking taken_step (layer.Path at path))

pub taken-IsValid : (at : ℕ) (path : P4Path) (w : Option ℕ) → taken (expr.IsValid at path) w ≡ (None, expr.IsValid at path)
taken-IsValid at path w = ap (λ e. taken e w) (sym (expr.rolls-IsValid at path)) ∙ ap (λ f. f w) (para-roll-P4Expr Taking taken_step (layer.IsValid at path))

pub typed-Choice : (at : ℕ) (test first second : P4Expr) (s : Scope) → typed (expr.Choice at test first second) s ≡ chosen at (expected form.Bool (typed test s)) (alike (typed first s) (typed second s))
typed-Choice at test first second s = ap (λ e. typed e s) (sym (expr.rolls-Choice at test first second)) ∙ ap (λ f. f s) (fold-roll-P4Expr (Scope → Typed) typed_step (layer.Choice at test first second))

pub typed-Binary : (at : ℕ) (op : P4BinaryOp) (left right : P4Expr) (s : Scope) → typed (expr.Binary at op left right) s ≡ operation at op (operated op at (typed left s) (typed right s))
typed-Binary at op left right s = ap (λ e. typed e s) (sym (expr.rolls-Binary at op left right)) ∙ ap (λ f. f s) (fold-roll-P4Expr (Scope → Typed) typed_step (layer.Binary at op left right))

pub typed-Unary : (at : ℕ) (op : P4UnaryOp) (x : P4Expr) (s : Scope) → typed (expr.Unary at op x) s ≡ prefixed at op (typed x s)
typed-Unary at op x s = ap (λ e. typed e s) (sym (expr.rolls-Unary at op x)) ∙ ap (λ f. f s) (fold-roll-P4Expr (Scope → Typed) typed_step (layer.Unary at op x))

pub typed-Cast : (at : ℕ) (t : P4Type) (x : P4Expr) (s : Scope) → typed (expr.Cast at t x) s ≡ cast at t (type_form t s) (typed x s)
typed-Cast at t x s = ap (λ e. typed e s) (sym (expr.rolls-Cast at t x)) ∙ ap (λ f. f s) (fold-roll-P4Expr (Scope → Typed) typed_step (layer.Cast at t x))

pub typed-Slice : (at : ℕ) (x : P4Expr) (slice : P4Slice) (s : Scope) → typed (expr.Slice at x slice) s ≡ sliced at slice (bits_alone (typed x s))
typed-Slice at x slice s = ap (λ e. typed e s) (sym (expr.rolls-Slice at x slice)) ∙ ap (λ f. f s) (fold-roll-P4Expr (Scope → Typed) typed_step (layer.Slice at x slice))

pub typed-Number : (at : ℕ) (n : P4Number) (s : Scope) → typed (expr.Number at n) s ≡ literal_by n.width at n
typed-Number at n s = ap (λ e. typed e s) (sym (expr.rolls-Number at n)) ∙ ap (λ f. f s) (fold-roll-P4Expr (Scope → Typed) typed_step (layer.Number at n))

pub typed-True : (at : ℕ) (s : Scope) → typed (expr.True at) s ≡ typed_as at None form.Bool (expr.True at)
typed-True at s = ap (λ e. typed e s) (sym (expr.rolls-True at)) ∙ ap (λ f. f s) (fold-roll-P4Expr (Scope → Typed) typed_step (layer.True at))

pub typed-False : (at : ℕ) (s : Scope) → typed (expr.False at) s ≡ typed_as at None form.Bool (expr.False at)
typed-False at s = ap (λ e. typed e s) (sym (expr.rolls-False at)) ∙ ap (λ f. f s) (fold-roll-P4Expr (Scope → Typed) typed_step (layer.False at))

pub typed-Path : (at : ℕ) (path : P4Path) (s : Scope) → typed (expr.Path at path) s ≡ valued at path (path_form at path s)
typed-Path at path s = ap (λ e. typed e s) (sym (expr.rolls-Path at path)) ∙ ap (λ f. f s) (fold-roll-P4Expr (Scope → Typed) typed_step (layer.Path at path))

pub typed-IsValid : (at : ℕ) (path : P4Path) (s : Scope) → typed (expr.IsValid at path) s ≡ typed_as at (header_path path s) form.Bool (expr.IsValid at path)
typed-IsValid at path s = ap (λ e. typed e s) (sym (expr.rolls-IsValid at path)) ∙ ap (λ f. f s) (fold-roll-P4Expr (Scope → Typed) typed_step (layer.IsValid at path))
