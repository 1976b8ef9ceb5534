-- Steps and statements, one more of each.
use Rattle.std.proofs.Common.{◌≡◌, ℕ, zero, suc, ◌+◌, ◌<◌, List, [], ◌∷◌, ◌++◌, map, length, take, get_or, refl, sym, ap, ◌∙◌, arith}
use Rattle.std.proofs.lemmas.List.{map-append}
use Rattle.p4_ast.specs.declared.expression.P4Expr.{P4Expr}
use Rattle.p4_ast.specs.declared.control.P4Local.{P4Local}
use Rattle.app_data.specs.declared.scope.Scope.{Scope as ScopeValue}
use Rattle.app_data.specs.declared.value.Value.{Value}
use Rattle.app_meaning.specs.Slots.{Scope}
use Rattle.app_meaning.specs.Expressions.{eval}
use Rattle.exec_code.specs.declared.code.Code.{Code}
use Rattle.exec_code.specs.Running.{run_code}
use Rattle.exec_steps.specs.Tied.{DoesAs, DoAs}
use Rattle.tree_run.specs.Contexts.{context}
use Rattle.p4_ast.specs.declared.statement.P4Stmt.{P4Stmt}
use Rattle.app_data.specs.declared.run.Run.{Run}
use Rattle.app_meaning.specs.Statements.{Context, values_of, in_turn, run_stmt}
use Rattle.exec_code.specs.declared.step.Step.{Step}
use Rattle.exec_code.specs.Steps.{Numbered, run_step, one_by_one}

pub one_more : (xs : List Step) (x : Step) (ns : Numbered) (run : Run) → one_by_one (map run_step (xs ++ x ∷ [])) ns run ≡ run_step x ns (one_by_one (map run_step xs) ns run)
one_more [] x ns run = refl
one_more (y ∷ ys) x ns run = one_more ys x ns (run_step y ns run)

pub turn_more : (xs : List P4Stmt) (x : P4Stmt) (ctx : Context) (run : Run) → in_turn (map run_stmt (xs ++ x ∷ [])) ctx run ≡ run_stmt x ctx (in_turn (map run_stmt xs) ctx run)
turn_more [] x ctx run = refl
turn_more (y ∷ ys) x ctx run = turn_more ys x ctx (run_stmt y ctx run)

taken_suc : {A : Type 0} (xs : List A) (i : ℕ) (x : A) → i < length xs → x ≡ get_or xs i x → take (suc i) xs ≡ take i xs ++ x ∷ []
taken_suc {A = A} [] i x h is = absurd (omega (arith, h))
taken_suc {A = A} (y ∷ ys) zero x h is = ap (λ (z : A). z ∷ []) (sym is)
taken_suc {A = A} (y ∷ ys) (suc i) x h is = ap (λ (zs : List A). y ∷ zs) (taken_suc ys i x (omega (arith, h)) is)

-- one member more of a list
pub taken : {A : Type 0} (xs : List A) (i : ℕ) (x : A) → i < length xs → x ≡ get_or xs i x → take (i + 1) xs ≡ take i xs ++ x ∷ []
taken {A = A} xs i x h is = let more : i + 1 ≡ suc i = omega arith in ap (λ (n : ℕ). take n xs) more ∙ taken_suc xs i x h is

-- one step more for one statement more
pub steps_more : (locals : List P4Local) (sc : ScopeValue) (steps next : List Step) (step : Step) (xs : List P4Stmt) (i : ℕ) (x : P4Stmt) → i < length xs → x ≡ get_or xs i x → next ≡ steps ++ step ∷ []
    → DoAs locals sc steps (take i xs) → DoesAs locals sc step (run_stmt x) → DoAs locals sc next (take (i + 1) xs)
steps_more locals sc steps next step xs i x h is n so_far here called applied ns tied run =
    let ctx : Context = context sc called applied in
    ap (λ (ss : List Step). one_by_one (map run_step ss) ns run) n
    ∙ one_more steps step ns run
    ∙ ap (run_step step ns) (so_far called applied ns tied run)
    ∙ here called applied ns tied (in_turn (map run_stmt (take i xs)) ctx run)
    ∙ sym (ap (λ (ss : List P4Stmt). in_turn (map run_stmt ss) ctx run) (taken xs i x h is) ∙ turn_more (take i xs) x ctx run)

-- one code more for one expression more
pub codes_more : (sc : Scope) (values : List Value) (cs next : List Code) (c : Code) (es : List P4Expr) (i : ℕ) (e : P4Expr) → i < length es → e ≡ get_or es i e → next ≡ cs ++ c ∷ []
    → map (λ (c : Code). run_code c values) cs ≡ values_of (take i es) sc values → run_code c values ≡ eval e sc values → map (λ (c : Code). run_code c values) next ≡ values_of (take (i + 1) es) sc values
codes_more sc values cs next c es i e h is n so_far here =
    ap (map (λ (c : Code). run_code c values)) n
    ∙ map-append (λ (c : Code). run_code c values) cs (c ∷ [])
    ∙ (λ j. so_far j ++ here j ∷ [])
    ∙ sym (ap (λ (xs : List P4Expr). values_of xs sc values) (taken es i e h is) ∙ map-append (λ (x : P4Expr). eval x sc values) (take i es) (e ∷ []))
