-- The cells of a program with at most 256 of them.
use Rattle.std.proofs.Common.{◌≡◌, ℕ, ◌+◌, ◌≤◌, List, [], ◌∷◌, Option, Some, None, Bool, true, false, if◌then◌else◌, subst, sym, arith}
use Rattle.std.specs.Prelude.{bytes_eq}
use Rattle.std.proofs.lemmas.Option.{none-some, same_Some}
use Rattle.p4_ast.specs.declared.control.P4Cell.{P4Cell}
use Rattle.p4_ast.specs.declared.control.P4Cell.TheVariants as cell
use Rattle.p4_ast.specs.declared.control.P4Local.{P4Local}
use Rattle.p4_ast.specs.declared.control.P4Local.TheVariants as local
use Rattle.p4_ast.specs.declared.control.P4Param.{P4Param}
use Rattle.p4_ast.specs.declared.program.P4Program.{P4Program}
use Rattle.app_data.specs.declared.scope.Register.{Register}
use Rattle.app_data.specs.declared.scope.TypeSlots.{TypeSlots}
use Rattle.app_meaning.specs.Slots.{Scope, named_register}
use Rattle.app_meaning.specs.Programs.{register_size, register, registers_from, registers_of, cells_in, cell_count, control_scope}
use Rattle.tree_cells.specs.Fit.{IsWithin, Fit}

-- the first of two registers, or what is found later
first_fits : (b : Bool) (r g : Register) (later : Option Register) → IsWithin r.first r.size → (later ≡ Some g → IsWithin g.first g.size) → (if b then Some r else later) ≡ Some g → IsWithin g.first g.size
first_fits true r g later w k e = subst (λ (x : Register). IsWithin x.first x.size) (same_Some r g e) w
first_fits false r g later w k e = k e

within : (types : List TypeSlots) (first : ℕ) (c : P4Cell) → first + register_size c ≤ 256 → IsWithin (register types first c).first (register types first c).size
within types first (cell.Cell at t name) h = omega (arith, h)
within types first (cell.Array at t size name) h = h

from_fits : (types : List TypeSlots) (first : ℕ) (ls : List P4Local) → first + cells_in ls ≤ 256 → Fit (registers_from types first ls)
from_fits types first [] h name g e = absurd (none-some g e)
from_fits types first (local.Cell c ∷ ls) h name g e =
    first_fits (bytes_eq (register types first c).name name) (register types first c) g (named_register name (registers_from types (first + register_size c) ls))
    (within types first c (omega (arith, h)))
    (from_fits types (first + register_size c) ls (omega (arith, h)) name g)
    e
from_fits types first (local.Const x ∷ ls) h name g e = from_fits types first ls h name g e
from_fits types first (local.Var x ∷ ls) h name g e = from_fits types first ls h name g e
from_fits types first (local.Action x ∷ ls) h name g e = from_fits types first ls h name g e
from_fits types first (local.Table x ∷ ls) h name g e = from_fits types first ls h name g e

of_fits : (rp : Option P4Param) (types : List TypeSlots) (ls : List P4Local) (n : ℕ) → cells_in ls ≤ 256 → n ≤ 256 → Fit (registers_of rp types ls n)
of_fits None types ls n h m name g e = from_fits types 0 ls (omega (arith, h)) name g e
of_fits (Some rp) types ls n h m name g e =
    let w : 0 + n ≤ 256 = omega (arith, m) in
    first_fits _ _ g None w (λ none. absurd (none-some g none)) e

pub control_fits : (p : P4Program) (n : ℕ) (sc : Scope) → sc ≡ control_scope p n → cell_count p ≤ 256 → n ≤ 256 → Fit sc.registers
control_fits p n sc e h m = subst (λ (s : Scope). Fit s.registers) (sym e) (of_fits p.ingress.rp (control_scope p n).types p.ingress.locals n h m)
