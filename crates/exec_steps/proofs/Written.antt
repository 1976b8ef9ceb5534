-- Writes and tests in code do what they do in the tree.
use Rattle.std.proofs.Common.{◌≡◌, ℕ, List, Bool, Option, Some, None, sym, ap, ◌∙◌, refl, ◌%◌, ◌^◌}
use Rattle.std.specs.Prelude.{is_some}
use Rattle.std.proofs.lemmas.Bool.{false≢true}
use Rattle.p4_ast.specs.declared.name.P4Name.{P4Name}
use Rattle.p4_ast.specs.declared.expression.P4Expr.{P4Expr}
use Rattle.p4_ast.specs.declared.control.P4Local.{P4Local}
use Rattle.p4_ast.specs.declared.statement.P4Cond.TheVariants as cond
use Rattle.p4_ast.specs.declared.statement.P4Outcome.{P4Outcome}
use Rattle.app_data.specs.declared.run.Run.{Run}
use Rattle.app_data.specs.declared.scope.Scope.{Scope as ScopeValue}
use Rattle.app_data.specs.declared.value.Value.{Value}
use Rattle.app_meaning.specs.Slots.{Name, Scope, text}
use Rattle.app_meaning.specs.Expressions.{eval}
use Rattle.app_meaning.specs.Statements.{member, store, optional_number, write_cell, negated_if, is_outcome, test}
use Rattle.exec_code.specs.declared.code.Code.{Code}
use Rattle.exec_code.specs.declared.step.Test.TheVariants as tested
use Rattle.exec_code.specs.Running.{run_code}
use Rattle.exec_code.specs.Steps.{Numbered, index_number, write_range, is_wanted, test_at}
use Rattle.exec_steps.specs.Tied.{table_number, IsTied}
use Rattle.tree_run.specs.Contexts.{context}

abbrev or_0 : Option ℕ → ℕ
or_0 None = 0
or_0 (Some n) = n

stored : (i : Option ℕ) (n m : ℕ) (run : Run) → n ≡ m → store i (n % 2 ^ 64) run ≡ store i (m % 2 ^ 64) run
stored i n m run e = ap (λ (k : ℕ). store i (k % 2 ^ 64) run) e

-- a write in code, where the codes have the values of the expressions
pub written : (sc : Scope) (first : ℕ) (size : Option ℕ) (c : Code) (e : P4Expr) (second : Option Code) (o : Option P4Expr)
    → ((values : List Value) → run_code c values ≡ eval e sc values) → ((values : List Value) → index_number second values ≡ optional_number o sc values)
    → (run : Run) → write_range first size c second run ≡ write_cell sc first size e o run
written sc first None c e second o h g run = stored (Some first) (run_code c run.values).number (eval e sc run.values).number run (ap (λ (v : Value). v.number) (h run.values))
written sc first (Some size) c e None None h g run = refl
written sc first (Some size) c e None (Some d) h g run = absurd (false≢true (ap is_some (g run.values)))
written sc first (Some size) c e (Some v) None h g run = absurd (false≢true (sym (ap is_some (g run.values))))
written sc first (Some size) c e (Some v) (Some d) h g run =
    let index : (run_code c run.values).number ≡ (eval e sc run.values).number = ap (λ (x : Value). x.number) (h run.values) in
    let number : (run_code v run.values).number ≡ (eval d sc run.values).number = ap or_0 (g run.values) in
    ap (λ (i : ℕ). store (member first size i) ((run_code v run.values).number % 2 ^ 64) run) index ∙ stored (member first size (eval e sc run.values).number) (run_code v run.values).number (eval d sc run.values).number run number

-- the outcome of a table by its number is that by its name
pub outcomes : (sc : ScopeValue) (locals : List P4Local) (at : ℕ) (negated : Bool) (name : P4Name) (outcome : P4Outcome) (wanted : Bool)
    → ((hit : Bool) → is_wanted wanted hit ≡ negated_if negated (is_outcome outcome hit))
    → (called : Name → List Value → Run → Run) (applied : Name → Run → Run × Bool) (ns : Numbered) → IsTied locals called applied ns
    → (run : Run) → test_at (tested.Hits (table_number locals (text name)) wanted) ns run ≡ test (cond.Apply at negated name outcome) (context sc called applied) run
outcomes sc locals at negated name outcome wanted h called applied ns tied run =
    ap (λ (a : Run × Bool). (a.0, is_wanted wanted a.1)) (sym (tied.applies (text name) run))
    ∙ ap (λ (b : Bool). ((applied (text name) run).0, b)) (h (applied (text name) run).1)
