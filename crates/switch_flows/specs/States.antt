-- The slots and copies of a switch as they are seen at a moment.
use Rattle.std.specs.Prelude.{ℕ, List}
use Rattle.key_table.specs.Table.{Table}
use Rattle.proto_model.specs.Slot.{Slot}
use Rattle.proto_model.specs.SwitchState.{Copy}

-- slots in order of making, copies in order of last sending, and the moment
pub record FlowsAt : Type 0 where
  pub slots : Table Slot
  pub copies : List Copy
  pub latest : ℕ
