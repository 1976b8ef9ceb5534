-- One more call, key and local.
use Rattle.std.proofs.Common.{◌≡◌, ℕ, ◌+◌, ◌<◌, List, [], ◌∷◌, ◌++◌, length, take, get_or, refl, sym, ap, ◌∙◌, subst}
use Rattle.std.proofs.lemmas.List.{map-append}
use Rattle.p4_ast.specs.declared.control.P4Local.{P4Local}
use Rattle.p4_ast.specs.declared.table.P4Entry.{P4Entry}
use Rattle.p4_ast.specs.declared.table.P4Key.{P4Key}
use Rattle.app_data.specs.declared.value.Value.{Value}
use Rattle.app_meaning.specs.Slots.{Scope}
use Rattle.app_meaning.specs.Expressions.{eval}
use Rattle.app_meaning.specs.Actions.{key_values}
use Rattle.exec_code.specs.declared.code.Code.{Code}
use Rattle.exec_code.specs.Running.{run_code}
use Rattle.exec_steps.proofs.Turns.{taken}
use Rattle.exec_tables.specs.declared.local.Call.{Call}
use Rattle.exec_tables.specs.declared.local.Local.{Local}
use Rattle.exec_tables.specs.Applying.{code_values}
use Rattle.exec_tables.specs.Locals.{IsCall, AreCalls, IsLocal, AreLocals}

module _ (sc : Scope) (all : List P4Local) where
  calls_end : (es : List P4Entry) (cs : List Call) (e : P4Entry) (c : Call) → AreCalls sc all es cs → IsCall sc all e.call c → AreCalls sc all (es ++ e ∷ []) (cs ++ c ∷ [])
  calls_end [] [] e c h k = (k, tt)
  calls_end [] (d ∷ cs) e c h k = absurd h
  calls_end (f ∷ es) [] e c h k = absurd h
  calls_end (f ∷ es) (d ∷ cs) e c h k = (h.0, calls_end es cs e c h.1 k)

  pub calls_more : (cs next : List Call) (c : Call) (es : List P4Entry) (i : ℕ) (e : P4Entry) → i < length es → e ≡ get_or es i e → next ≡ cs ++ c ∷ []
      → AreCalls sc all (take i es) cs → IsCall sc all e.call c → AreCalls sc all (take (i + 1) es) next
  calls_more cs next c es i e h is n so_far here =
      subst (AreCalls sc all (take (i + 1) es)) (sym n) (subst (λ (xs : List P4Entry). AreCalls sc all xs (cs ++ c ∷ [])) (sym (taken es i e h is)) (calls_end (take i es) cs e c so_far here))

  locals_end : (ls : List P4Local) (xs : List Local) (l : P4Local) (x : Local) → AreLocals sc all ls xs → IsLocal sc all l x → AreLocals sc all (ls ++ l ∷ []) (xs ++ x ∷ [])
  locals_end [] [] l x h k = (k, tt)
  locals_end [] (y ∷ xs) l x h k = absurd h
  locals_end (m ∷ ls) [] l x h k = absurd h
  locals_end (m ∷ ls) (y ∷ xs) l x h k = (h.0, locals_end ls xs l x h.1 k)

  pub locals_more : (xs next : List Local) (x : Local) (ls : List P4Local) (i : ℕ) (l : P4Local) → i < length ls → l ≡ get_or ls i l → next ≡ xs ++ x ∷ []
      → AreLocals sc all (take i ls) xs → IsLocal sc all l x → AreLocals sc all (take (i + 1) ls) next
  locals_more xs next x ls i l h is n so_far here =
      subst (AreLocals sc all (take (i + 1) ls)) (sym n) (subst (λ (ys : List P4Local). AreLocals sc all ys (xs ++ x ∷ [])) (sym (taken ls i l h is)) (locals_end (take i ls) xs l x so_far here))

keys_end : (sc : Scope) (ks : List P4Key) (k : P4Key) (values : List Value) → key_values (ks ++ k ∷ []) sc values ≡ key_values ks sc values ++ eval k.expr sc values ∷ []
keys_end sc [] k values = refl
keys_end sc (l ∷ ks) k values = ap (λ (vs : List Value). eval l.expr sc values ∷ vs) (keys_end sc ks k values)

pub keys_more : (sc : Scope) (values : List Value) (cs next : List Code) (c : Code) (ks : List P4Key) (i : ℕ) (k : P4Key) → i < length ks → k ≡ get_or ks i k → next ≡ cs ++ c ∷ []
    → code_values cs values ≡ key_values (take i ks) sc values → run_code c values ≡ eval k.expr sc values → code_values next values ≡ key_values (take (i + 1) ks) sc values
keys_more sc values cs next c ks i k h is n so_far here =
    ap (λ (xs : List Code). code_values xs values) n
    ∙ map-append (λ (c : Code). run_code c values) cs (c ∷ [])
    ∙ (λ j. so_far j ++ here j ∷ [])
    ∙ sym (ap (λ (xs : List P4Key). key_values xs sc values) (taken ks i k h is) ∙ keys_end sc (take i ks) k values)
