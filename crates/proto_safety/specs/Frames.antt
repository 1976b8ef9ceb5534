-- The list of frames from one event to the next.
use Rattle.std.specs.Prelude.{◌≡◌, ◌≤◌, List, ◌++◌, length}
use Rattle.proto_data.specs.declared.message.Msg.{Msg}

-- these frames are those of before and at most 64 behind them
pub record Grows (before after : List Msg) : Type 0 where
  pub new : List Msg
  pub behind : after ≡ before ++ new
  pub few : length new ≤ 64
