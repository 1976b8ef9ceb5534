-- A slot by its parts, and what a Grant makes of it.
use Rattle.std.specs.Prelude.{ℕ, ◌+◌, ◌≡◌, true, List, [], Option, Some, None, is_some}
use Rattle.proto_safety.specs.Sizes.{is_leased}
use Rattle.proto_model.specs.Slot.{Slot, Lease, Idle, Asking, Held, Lapsed}
use Rattle.proto_model.specs.SwitchRow.{granted}
use Rattle.switch_slot.specs.Rounds.{CellsAt}

-- the cells of a slot; one that was never granted may have none
abbrev pub cells_of : Option CellsAt → CellsAt
cells_of None = record { cells = []; round = None }
cells_of (Some s) = s

-- a slot that was granted has its cells
abbrev pub HasCells : Lease → Option CellsAt → Type 0
HasCells lease cells = is_leased lease ≡ true → is_some cells ≡ true

-- the slot that a Grant makes of one that asks
abbrev pub granted_by : Slot → ℕ → ℕ → List ℕ → Lease → Slot
granted_by slot t_switch epoch cells Idle = slot
granted_by slot t_switch epoch cells (Asking nonce first) = granted slot nonce epoch (first + t_switch) cells
granted_by slot t_switch epoch cells (Held nonce of expiry) = slot
granted_by slot t_switch epoch cells (Lapsed nonce of expiry) = slot
