-- What is known of a program that was checked and not rewritten.
use Rattle.std.proofs.Common.{◌≡◌, ℕ, ap}
use Rattle.p4_ast.specs.declared.control.P4Param.{P4Param}
use Rattle.p4_ast.specs.declared.program.P4Program.{P4Program}
use Rattle.std.specs.Prelude.{Option}
use Rattle.app_meaning.specs.Programs.{locals, registers_of, control_scope}
use Rattle.p4_check.specs.Checking.{IsSource, IsRewritten}
use Rattle.p4_check.specs.Rewriting.{Source, source_of, rewritten}
use Rattle.check_laws.proofs.Sources.{unrewritten}

-- the types and the cells of its control are those that it is rewritten by
pub source_is : (t : P4Program) (n : ℕ) → IsSource t n → record { types = (control_scope t n).types; registers = (control_scope t n).registers } ≡ source_of t
source_is t n h =
    let with_rp : Option P4Param → Source = λ rp. record { types = (locals t).types; registers = registers_of rp (locals t).types t.ingress.locals n } in
    ap with_rp (unrewritten t n h)

-- its rewritten tree is that of an accepted program
pub is_rewritten : (t : P4Program) (n : ℕ) → IsSource t n → IsRewritten (rewritten t) n
is_rewritten t n (p, bad, tree, cells) = (p, bad, ap rewritten tree, cells)
