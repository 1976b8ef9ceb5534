-- The control's variables get their first values, one after the other.
use Rattle.std.proofs.Common.{◌≡◌, ℕ, ◌+◌, ◌<◌, List, [], ◌∷◌, ◌++◌, map, length, take, get_or, refl, sym, ap, ◌∙◌}
use Rattle.p4_ast.specs.declared.control.P4Local.{P4Local}
use Rattle.p4_ast.specs.declared.control.P4Local.TheVariants as local
use Rattle.app_data.specs.declared.run.Run.{Run}
use Rattle.app_data.specs.declared.value.Value.{Value}
use Rattle.app_meaning.specs.Slots.{Scope}
use Rattle.app_meaning.specs.Programs.{run_locals}
use Rattle.app_meaning.specs.Statements.{with_values, declare}
use Rattle.exec_code.specs.declared.step.Step.{Step}
use Rattle.exec_code.specs.Steps.{Numbered, run_step, one_by_one}
use Rattle.exec_control.specs.Controls.{first_value}
pub use Rattle.exec_steps.proofs.Turns.{one_more}
use Rattle.exec_steps.proofs.Turns.{taken}

end_is : (ls : List P4Local) (l : P4Local) (sc : Scope) (values : List Value) → run_locals (ls ++ l ∷ []) sc values ≡ run_locals (l ∷ []) sc (run_locals ls sc values)
end_is [] l sc values = refl
end_is (local.Var v ∷ ls) l sc values = end_is ls l sc (declare sc v values)
end_is (local.Const c ∷ ls) l sc values = end_is ls l sc values
end_is (local.Cell c ∷ ls) l sc values = end_is ls l sc values
end_is (local.Action a ∷ ls) l sc values = end_is ls l sc values
end_is (local.Table t ∷ ls) l sc values = end_is ls l sc values

take_more : (ls : List P4Local) (i : ℕ) (l : P4Local) (sc : Scope) (values : List Value) → i < length ls → l ≡ get_or ls i l → run_locals (take (i + 1) ls) sc values ≡ run_locals (l ∷ []) sc (run_locals (take i ls) sc values)
take_more ls i l sc values h is = ap (λ (xs : List P4Local). run_locals xs sc values) (taken ls i l h is) ∙ end_is (take i ls) l sc values

-- the first value of one local more
pub first_more : (steps next : List Step) (ls : List P4Local) (i : ℕ) (l : P4Local) (sc : Scope) → i < length ls → l ≡ get_or ls i l
    → ((ns : Numbered) (run : Run) → one_by_one (map run_step next) ns run ≡ first_value l sc (one_by_one (map run_step steps) ns run))
    → ((ns : Numbered) (run : Run) → one_by_one (map run_step steps) ns run ≡ with_values run (run_locals (take i ls) sc run.values))
    → (ns : Numbered) (run : Run) → one_by_one (map run_step next) ns run ≡ with_values run (run_locals (take (i + 1) ls) sc run.values)
first_more steps next ls i l sc h is here so_far ns run =
    here ns run ∙ ap (first_value l sc) (so_far ns run) ∙ sym (ap (with_values run) (take_more ls i l sc run.values h is))
