-- A switch at the moment of its last input, and over its whole life.
use Rattle.std.specs.Prelude.{ℕ, ◌+◌, ◌^◌, ◌≡◌, ◌≤◌, Bool, true, false, List, All}
use Rattle.rp_app.specs.Application.{Application}
use Rattle.proto_data.specs.declared.message.Input.{Input}
use Rattle.proto_data.specs.declared.message.Config.{Config}
use Rattle.proto_data.specs.declared.terms.Terms.{Terms}
use Rattle.key_table.specs.Table.{Key}
use Rattle.proto_model.specs.Slot.{Slot}
use Rattle.proto_model.specs.SwitchState.{Switch, Copy, SwitchStep, SwitchDid, open_switch, is_of}
use Rattle.proto_model.specs.SwitchRow.{SwitchRow}
use Rattle.proto_model.specs.SwitchOutcomes.{perform}
use Rattle.proto_model.specs.SwitchRows.{switch_step}
use Rattle.proto_safety.specs.Sizes.{SlotCells, is_leased}

-- a switch as it is seen at a moment
pub record SwitchAt : Type 0 where
  pub state : Switch
  pub latest : ℕ

-- what a step makes of it at that moment
abbrev pub stepped : SwitchAt → SwitchStep → SwitchAt × SwitchDid
stepped s step = (record { state = step.0; latest = s.latest }, step.1)

-- and what follows from a row
abbrev pub acts : SwitchAt → SwitchRow → SwitchAt × SwitchDid
acts s row = stepped s (perform s.state s.latest row)

-- the copies of a flow have numbers up to this one
abbrev pub AreUpTo : Key → ℕ → List Copy → Type 0
AreUpTo key last copies = All (λ c. is_of key c ≡ true → c.number ≤ last) copies

-- A slot that was taken out, of an application with so many cells, beside these copies: a leased one has its cells and the copies up to
-- its last number, and any other has none.
pub record IsTaken (count : ℕ) (key : Key) (copies : List Copy) (slot : Slot) : Type 0 where
  pub last : slot.last ≤ 2 ^ 62
  pub whole : SlotCells count slot
  pub numbers : AreUpTo key slot.last copies
  pub none : is_leased slot.lease ≡ false → AreUpTo key 0 copies

-- a switch with the moment of its last input, the number of its application's cells, its turns, and whether memory ran out
pub record Core : Type 0 where
  pub state : Switch
  pub latest : ℕ
  pub cells : ℕ
  pub turns : ℕ
  pub failed : Bool

-- a switch before its first turn
abbrev pub opened : ℕ → ℕ → ℕ → Terms → Config → Core
opened me inc cells terms config = record { state = open_switch me inc terms config; latest = 0; cells = cells; turns = 0; failed = false }

-- the switch after a turn that did this
abbrev pub turned : Core → ℕ → SwitchStep → Core × SwitchDid
turned c now step = (record { state = step.0; latest = now; cells = c.cells; turns = c.turns + 1; failed = c.failed }, step.1)

-- one turn: the step of the definitions
abbrev pub turn : Application → Core → ℕ → Input → Core × SwitchDid
turn app c now input = turned c now (switch_step app c.state now input)
