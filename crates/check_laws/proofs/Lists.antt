-- A walk over a list is one over its first part and then over the rest.
use Rattle.std.proofs.Common.{◌≡◌, Bool, true, ◌&&◌, None, List, [], ◌∷◌, ◌++◌, length, append_assoc, sym, ap, ◌∙◌, ◌==◌}
use Rattle.std.specs.Cmp.Derive.{both_true}
use Rattle.std.proofs.lemmas.Bool.{and_parts}
use Rattle.std.proofs.lemmas.List.{append-nil}
use Rattle.p4_ast.specs.declared.statement.P4Stmt.{P4Stmt}
use Rattle.p4_scope.specs.Faults.{Fault, every, add}
use Rattle.p4_scope.specs.Scopes.{Scope, each}
use Rattle.p4_stmts.specs.Statements.{WalkStmt, stmts}
use Rattle.check_laws.proofs.Clean.{clean_both}
use Rattle.check_laws.proofs.Onward.{Within, within_then, itself}

module _ {A B : Type 0} (f : A → Scope → Scope × B) where
  each_behind : (xs : List A) (s : Scope) (done : List B) → each f xs s done ≡ ((each f xs s []).0, done ++ (each f xs s []).1)
  each_behind [] s done = ap (λ (l : List B). (s, l)) (sym (append-nil done))
  each_behind (x ∷ xs) s done =
      let r : Scope × B = f x s in
      let rest : Scope × List B = each f xs r.0 [] in
      each_behind xs r.0 (done ++ r.1 ∷ []) ∙ (ap (λ (l : List B). (rest.0, l)) (append_assoc done (r.1 ∷ []) rest.1)
      ∙ sym (ap (λ (a : Scope × List B). (a.0, done ++ a.1)) (each_behind xs r.0 (r.1 ∷ []))))

  pub each_front : (x : A) (xs : List A) (s : Scope) → each f (x ∷ xs) s [] ≡ ((each f xs (f x s).0 []).0, (f x s).1 ∷ (each f xs (f x s).0 []).1)
  each_front x xs s = each_behind xs (f x s).0 ((f x s).1 ∷ [])

  pub each_within : ((x : A) (s : Scope) → Within s (f x s).0) → (xs : List A) (s : Scope) (done : List B) → Within s (each f xs s done).0
  each_within h [] s done = itself s
  each_within h (x ∷ xs) s done = within_then s _ _ (h x s) (each_within h xs (f x s).0 (done ++ (f x s).1 ∷ []))

stmts_behind : (xs : List WalkStmt) (s : Scope) (done : List P4Stmt) → stmts xs s done ≡ ((stmts xs s []).0, done ++ (stmts xs s []).1)
stmts_behind [] s done = ap (λ (l : List P4Stmt). (s, l)) (sym (append-nil done))
stmts_behind (x ∷ xs) s done =
    let r : Scope × P4Stmt = x (length xs == 0) s in
    let rest : Scope × List P4Stmt = stmts xs r.0 [] in
    stmts_behind xs r.0 (done ++ r.1 ∷ []) ∙ (ap (λ (l : List P4Stmt). (rest.0, l)) (append_assoc done (r.1 ∷ []) rest.1)
    ∙ sym (ap (λ (a : Scope × List P4Stmt). (a.0, done ++ a.1)) (stmts_behind xs r.0 (r.1 ∷ []))))

pub stmts_front : (x : WalkStmt) (xs : List WalkStmt) (s : Scope)
    → stmts (x ∷ xs) s [] ≡ ((stmts xs (x (length xs == 0) s).0 []).0, (x (length xs == 0) s).1 ∷ (stmts xs (x (length xs == 0) s).0 []).1)
stmts_front x xs s = stmts_behind xs (x (length xs == 0) s).0 ((x (length xs == 0) s).1 ∷ [])

-- ---- tests of lists, which go by the first element and the rest

module _ {B : Type 0} (one : B → Bool) (all : List B → Bool) (none : all [] ≡ true) (front : (x : B) (xs : List B) → all (x ∷ xs) ≡ (one x && all xs)) where
  -- with one more that passes
  pub all_last : (xs : List B) (y : B) → all xs ≡ true → one y ≡ true → all (xs ++ y ∷ []) ≡ true
  all_last [] y h g = front y [] ∙ both_true g none
  all_last (x ∷ xs) y h g =
      let p = and_parts (one x) (all xs) (sym (front x xs) ∙ h) in
      front x (xs ++ y ∷ []) ∙ both_true p.0 (all_last xs y p.1 g)

  module _ {A : Type 0} (f : A → Fault × B) (passes : (x : A) → (f x).0 ≡ None → one (f x).1 ≡ true) where
    -- parts without a fault pass
    every_behind : (xs : List A) (done : Fault × List B) → (every f xs done).0 ≡ None → (done.0 ≡ None) × (all done.1 ≡ true → all (every f xs done).1 ≡ true)
    every_behind [] done h = (h, λ k. k)
    every_behind (x ∷ xs) done h =
        let rest = every_behind xs (add (f x) done) h in
        let p = clean_both done.0 (f x).0 rest.0 in
        (p.0, λ k. rest.1 (all_last done.1 (f x).1 k (passes x p.1)))

    pub every_passes : (xs : List A) (found : Fault) → (every f xs (found, [])).0 ≡ None → (found ≡ None) × (all (every f xs (found, [])).1 ≡ true)
    every_passes xs found h = let r = every_behind xs (found, []) h in (r.0, r.1 none)
