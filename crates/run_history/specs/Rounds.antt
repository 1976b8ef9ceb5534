-- Rounds of snapshots as a step adds them to the history.
use Rattle.std.specs.Prelude.{ℕ}
use Rattle.proto_model.specs.SwitchState.{Begun}
use Rattle.proto_model.specs.World.{RoundBegun}

-- a round that was begun at this event, behind so many items
abbrev pub round_begun : ℕ → ℕ → Begun → RoundBegun
round_begun event items_before begun = record { event = event; begun = begun; items_before = items_before }
