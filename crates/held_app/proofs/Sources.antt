-- What a source is rewritten to is, as an application, the source.
use Rattle.std.proofs.Common.{◌≡◌, ◌∙◌, ◌≤◌, sym, ap, subst, ℕ, true, None, Result, Ok, Err, IfOk, arith}
use Rattle.rp_base.specs.declared.error.NoMemory.{NoMemory}
use Rattle.p4_ast.specs.declared.program.P4Program.{P4Program}
use Rattle.p4_check.specs.Programs.{cells_of, checked}
use Rattle.p4_check.specs.Rewriting.{rewritten}
use Rattle.p4_check.specs.Checking.{CheckedProgram, IsSource}
use Rattle.app_meaning.specs.Programs.{application, cell_count}
use Rattle.check_laws.proofs.Sound.{sound_of, counted_cells}
use Rattle.rewrite_laws.specs.Leases.{held_application}
use Rattle.rewrite_laws.proofs.Same.{same_application}
use Rattle.held_app.specs.declared.program.HeldApp.{HeldApp}
use Rattle.held_app.specs.Held.{program_of}

pub source_held : (tree : P4Program) (cells : ℕ) → IsSource tree cells → held_application (rewritten tree) cells ≡ application tree
source_held tree cells (p, bad, tree_is, cells_are) =
    let count : cells_of p ≡ cell_count (checked p) = counted_cells p bad in
    subst (λ (t : P4Program). held_application (rewritten t) cells ≡ application t) (sym tree_is)
    (subst (λ (n : ℕ). held_application (rewritten (checked p)) n ≡ application (checked p)) (sym (cells_are ∙ count)) (same_application (checked p) (sound_of p bad)))

pub source_few : (tree : P4Program) (cells : ℕ) → IsSource tree cells → cells ≤ 256
source_few tree cells (p, bad, tree_is, cells_are) =
    omega (arith, cells_are, counted_cells p bad, (sound_of p bad).few)

-- the same of the application that is made of it
pub held_is : (tree : P4Program) (cells : ℕ) → IsSource tree cells → (c : CheckedProgram) → c ≡ record { tree = rewritten tree; cells = cells; rewritten = true } → (r : Result HeldApp NoMemory) →
    IfOk r (λ app. program_of app ≡ c) → IfOk r (λ app. held_application (program_of app).tree (program_of app).cells ≡ application tree)
held_is tree cells source c is (Err e) h = tt
held_is tree cells source c is (Ok app) h = ap (λ (x : CheckedProgram). held_application x.tree x.cells) (h ∙ is) ∙ source_held tree cells source

pub held_few : (tree : P4Program) (cells : ℕ) → IsSource tree cells → (c : CheckedProgram) → c ≡ record { tree = rewritten tree; cells = cells; rewritten = true } → (r : Result HeldApp NoMemory) →
    IfOk r (λ app. program_of app ≡ c) → IfOk r (λ app. (program_of app).cells ≤ 256)
held_few tree cells source c is (Err e) h = tt
held_few tree cells source c is (Ok app) h = subst (λ (n : ℕ). n ≤ 256) (sym (ap (λ (x : CheckedProgram). x.cells) (h ∙ is))) (source_few tree cells source)
