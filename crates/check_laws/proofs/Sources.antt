-- What is known of a program that was checked and not rewritten.
use Rattle.std.proofs.Common.{◌≡◌, ◌≤◌, ℕ, None, sym, subst}
use Rattle.p4_ast.specs.declared.program.P4Program.{P4Program}
use Rattle.p4_check.specs.Checking.{IsSource}
use Rattle.app_meaning.specs.Programs.{cell_count}
use Rattle.check_laws.proofs.Sound.{sound_of}

pub few : (t : P4Program) (n : ℕ) → IsSource t n → cell_count t ≤ 256
few t n (p, bad, tree, cells) = subst (λ x. cell_count x ≤ 256) (sym tree) (sound_of p bad).few

pub unrewritten : (t : P4Program) (n : ℕ) → IsSource t n → t.ingress.rp ≡ None
unrewritten t n (p, bad, tree, cells) = subst (λ (x : P4Program). x.ingress.rp ≡ None) (sym tree) (sound_of p bad).source
