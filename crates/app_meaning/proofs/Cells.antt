-- The cells of each declaration are among all cells.
use Rattle.std.proofs.Common.{◌≡◌, ℕ, ◌+◌, ◌≤◌, ◌<◌, Bool, true, false, List, [], ◌∷◌, Option, Some, None, ap, if◌then◌else◌, bytes_eq, arith, subst}
use Rattle.std.proofs.lemmas.Option.{none-some}
use Rattle.std.specs.Prelude.{unwrap_or}
use Rattle.p4_ast.specs.declared.control.P4Cell.{P4Cell}
use Rattle.p4_ast.specs.declared.control.P4Cell.TheVariants as cell
use Rattle.p4_ast.specs.declared.control.P4Local.{P4Local}
use Rattle.p4_ast.specs.declared.control.P4Local.TheVariants as local
use Rattle.app_data.specs.declared.scope.TypeSlots.{TypeSlots}
use Rattle.app_data.specs.declared.scope.Register.{Register}
use Rattle.app_meaning.specs.Slots.{Name, named_register}
use Rattle.app_meaning.specs.Programs.{register_size, register, registers_from, cells_in}

-- the cells of a declaration are among the first `n`
abbrev pub Within : ℕ → ℕ → Option ℕ → Type 0
Within n first None = first < n
Within n first (Some size) = first + size ≤ n

grown : (n m first : ℕ) (size : Option ℕ) → Within n first size → n ≤ m → Within m first size
grown n m first None w l = omega (arith, w, l)
grown n m first (Some k) w l = omega (arith, w, l)

own_cells : (types : List TypeSlots) (first : ℕ) (c : P4Cell) (rest : ℕ) → Within (first + (register_size c + rest)) (register types first c).first (register types first c).size
own_cells types first (cell.Cell at t name) rest = omega arith
own_cells types first (cell.Array at t size name) rest = omega arith

found : (t : Bool) (x : Register) (o : Option Register) (g : Register) (P : Register → Type 0) → (if t then Some x else o) ≡ Some g → P x → (o ≡ Some g → P g) → P g
found true x o g P e p q = subst P (ap (λ (r : Option Register). unwrap_or r x) e) p
found false x o g P e p q = q e

-- each declaration's cells are among all cells
pub cells_within : (types : List TypeSlots) (first : ℕ) (ls : List P4Local) (name : Name) (g : Register) → named_register name (registers_from types first ls) ≡ Some g → Within (first + cells_in ls) g.first g.size
cells_within types first [] name g e = absurd (none-some g e)
cells_within types first (local.Const c ∷ ls) name g e = cells_within types first ls name g e
cells_within types first (local.Var v ∷ ls) name g e = cells_within types first ls name g e
cells_within types first (local.Action a ∷ ls) name g e = cells_within types first ls name g e
cells_within types first (local.Table t ∷ ls) name g e = cells_within types first ls name g e
cells_within types first (local.Cell c ∷ ls) name g e =
    found (bytes_eq (register types first c).name name) (register types first c) (named_register name (registers_from types (first + register_size c) ls)) g
    (λ h. Within (first + (register_size c + cells_in ls)) h.first h.size) e
    (own_cells types first c (cells_in ls))
    (λ e'. grown (first + register_size c + cells_in ls) (first + (register_size c + cells_in ls)) g.first g.size (cells_within types (first + register_size c) ls name g e') (omega arith))
