-- How many cells a rewritten program has: in its tree none, and for each flow at most 256.
use mathlib.Core.Logic.{∥∥₁_elim}
use Rattle.std.proofs.Common.{◌≡◌, ◌∙◌, ◌≤◌, refl, sym, ap, subst, ℕ, List, [], ◌∷◌, arith}
use Rattle.std.specs.Coded.{Coded-set, le_prop}
use Rattle.p4_ast.specs.declared.control.P4Local.{P4Local}
use Rattle.p4_ast.specs.declared.control.P4Local.TheVariants as local
use Rattle.p4_ast.specs.declared.program.P4Program.{P4Program}
use Rattle.p4_check.specs.Programs.{cells_of, checked}
use Rattle.p4_check.specs.Rewriting.{Source, source_of, rewrite_locals, rewritten}
use Rattle.p4_check.specs.Checking.{IsRewritten}
use Rattle.app_meaning.specs.Programs.{cells_in, cell_count}
use Rattle.check_laws.proofs.Sound.{sound_of, counted_cells}
use Rattle.tree_scope.specs.contracts.scopes.Scopes as scopes
use Rattle.tree_scope.specs.Scopes.{ProgramScopes, scopes_of}

no_cells : (src : Source) (ls : List P4Local) → cells_in (rewrite_locals src ls) ≡ 0
no_cells src [] = refl
no_cells src (local.Const c ∷ ls) = no_cells src ls
no_cells src (local.Var v ∷ ls) = no_cells src ls
no_cells src (local.Cell c ∷ ls) = no_cells src ls
no_cells src (local.Action a ∷ ls) = no_cells src ls
no_cells src (local.Table t ∷ ls) = no_cells src ls

none_in : (tree : P4Program) (cells : ℕ) → IsRewritten tree cells → cell_count tree ≤ 256
none_in tree cells (p, bad, tree_is, cells_are) =
    let none : cell_count (rewritten (checked p)) ≡ 0 = no_cells (source_of (checked p)) (checked p).ingress.locals in
    subst (λ (t : P4Program). cell_count t ≤ 256) (sym tree_is) (omega (arith, none))

pub few_in_tree : (tree : P4Program) (cells : ℕ) → ∥ IsRewritten tree cells ∥₁ → cell_count tree ≤ 256
few_in_tree tree cells h = ∥∥₁_elim h le_prop (none_in tree cells)

few_of : (tree : P4Program) (cells : ℕ) → IsRewritten tree cells → cells ≤ 256
few_of tree cells (p, bad, tree_is, cells_are) =
    omega (arith, cells_are, counted_cells p bad, (sound_of p bad).few)

pub few_cells : (tree : P4Program) (cells : ℕ) → ∥ IsRewritten tree cells ∥₁ → cells ≤ 256
few_cells tree cells h = ∥∥₁_elim h le_prop (few_of tree cells)

-- scopes that are known to be these are these
pub scopes_are : (s t : ProgramScopes) → ∥ s ≡ t ∥₁ → s ≡ t
scopes_are s t h = ∥∥₁_elim h (Coded-set scopes.the_row.coded s t) (λ e. e)
