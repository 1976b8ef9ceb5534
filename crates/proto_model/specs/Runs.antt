-- A run, event by event, and the clocks along it.
use Rattle.std.specs.Prelude.{ℕ, ◌+◌, ◌-◌, List, [], Option, Some, sum, map, take, slice_get, option_map, unwrap_or}
use Rattle.std.specs.List.{range_with_len}
use Rattle.rp_base.specs.declared.event.Event.{Event}
use Rattle.rp_app.specs.Application.{Application}
use Rattle.proto_model.specs.World.{World, Setup, opened}
use Rattle.proto_model.specs.Lines.{Line}
use Rattle.proto_model.specs.WorldStep.{Act, Advances, act_of, next_event, world_step, world_after}

pub record Run : Type 0 where
  pub app : Application
  pub setup : Setup
  pub events : List Event

-- the world before the event at this place; places count from 0, so the event's number is one more
abbrev pub before : Run → ℕ → World
before r i = world_after r.app (opened r.app.cell_count r.setup) (take i r.events)

abbrev pub act_at : Run → ℕ → Option Act
act_at r i = option_map (λ e. act_of r.app (next_event (before r i)) e) (slice_get r.events i)

abbrev pub lines_at : Run → ℕ → List Line
lines_at r i = unwrap_or (option_map (λ e. (world_step r.app (before r i) e).1) (slice_get r.events i)) []

-- the places behind one and before another
abbrev pub between : ℕ → ℕ → List ℕ
between a b = range_with_len (a + 1) (b - (a + 1))

-- how far node x's clock goes on, switches counted first
abbrev pub advance_of : ℕ → Option Act → ℕ
advance_of x (Some (Advances by)) = unwrap_or (slice_get by x) 0
advance_of x _ = 0

-- the sum of node x's advances in the unrefused `time` events among the first n
abbrev pub clock : Run → ℕ → ℕ → ℕ
clock r x n = sum (map (λ i. advance_of x (act_at r i)) (range_with_len 0 n))
