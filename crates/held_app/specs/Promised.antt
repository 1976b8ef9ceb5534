-- What an accepted program is rewritten to is an application.
use mathlib.Core.Logic.{∥∥₁_elim}
use Rattle.std.proofs.Common.{◌≡◌, ◌∙◌, sym, subst, ap, ℕ, None, arith}
use Rattle.rp_app.specs.Application.{IsApplication}
use Rattle.p4_ast.specs.declared.program.P4Program.{P4Program}
use Rattle.p4_check.specs.Programs.{bad_tree, checked, cells_of}
use Rattle.p4_check.specs.Rewriting.{rewritten}
use Rattle.p4_check.specs.Checking.{IsRewritten}
use Rattle.app_meaning.specs.Programs.{cell_count}
use Rattle.check_laws.proofs.Sound.{sound_of, counted_cells}
use Rattle.rewrite_laws.specs.Leases.{held_application}
use Rattle.rewrite_laws.proofs.Same.{new_promised}
use Rattle.held_app.specs.Once.{application_prop}

pub rewritten_promised : (tree : P4Program) (cells : ℕ) → IsRewritten tree cells → IsApplication (held_application tree cells)
rewritten_promised tree cells (p, bad, tree_is, cells_are) =
    let count : cells_of p ≡ cell_count (checked p) = counted_cells p bad in
    subst (λ (t : P4Program). IsApplication (held_application t cells)) (sym tree_is)
    (subst (λ (n : ℕ). IsApplication (held_application (rewritten (checked p)) n)) (sym (cells_are ∙ count)) (new_promised (checked p) (sound_of p bad)))

-- the same where it is known that there is such a program
pub held_promised : (tree : P4Program) (cells : ℕ) → ∥ IsRewritten tree cells ∥₁ → IsApplication (held_application tree cells)
held_promised tree cells h = ∥∥₁_elim h (application_prop (held_application tree cells)) (rewritten_promised tree cells)
