-- A run in snapshot mode of an application with 64 cells: rounds of two chunks, an item too many for the bound, and a takeover that loses items.
use Rattle.proto_data.specs.declared.terms.Mode.{Mode}
use Rattle.rp_base.specs.declared.node.Node.{Node}
use Rattle.rp_base.specs.declared.event.Event.{Event}
use Rattle.rp_base.specs.declared.event.Event.TheVariants.{Feed, Next, Time, Alarm, Fail, Detect}
use Rattle.std.specs.Prelude.{ℕ, ◌+◌, false, List, [], ◌∷◌, Option, Some, None, slice_index}
use Rattle.rp_base.specs.declared.node.Packet.{Packet}
use Rattle.rp_base.specs.declared.node.Output.{Output}
use Rattle.rp_app.specs.Application.{Application, Delta, counting_key}
use Rattle.proto_model.specs.World.{World, Setup}
use Rattle.proto_model.specs.Lines.{Line, without_sends}
use Rattle.proto_model.specs.WorldStep.{run}

-- the cell that the second byte names is counted, and its count stands in the place of the first byte
abbrev pub letters_plain : List ℕ → Packet → List ℕ → Delta × Option Output
letters_plain cells p [] = ([], None)
letters_plain cells p (b ∷ bs) = (
  (slice_index bs 0, slice_index cells (slice_index bs 0) + 1) ∷ [],
  Some (record { mark = p.mark; port = p.port; bytes = (slice_index cells (slice_index bs 0) + 1) ∷ bs }),
)

-- a flow is the first byte
abbrev pub letters : Application
letters = record { cell_count = 64; key_of = λ p. counting_key p.bytes; plain = λ cells p. letters_plain cells p p.bytes }

-- two switches over one replica, with a bound of 100
abbrev pub opening : Setup
opening = record { switches = 2; replicas = 1; terms = record { t_switch = 1000; t_store = 1100; ratio = 50; mode = Mode.Snapshot 100 }; linked = false }

-- its events
abbrev pub events : List Event
events = Feed 7 (98 ∷ 0 ∷ []) ∷ Next ∷ Next ∷ Alarm (Node.Switch 0) ∷ Feed 7 (98 ∷ 0 ∷ []) ∷ Feed 7 (98 ∷ 63 ∷ []) ∷ Alarm (Node.Switch 0) ∷ Next ∷ Next ∷ Next ∷ Time (99 ∷ 99 ∷ 99 ∷ []) ∷ Feed 7 (98 ∷ 0 ∷ []) ∷ Time (1 ∷ 1 ∷ 1 ∷ []) ∷ Feed 7 (98 ∷ 0 ∷ []) ∷ Fail (Node.Switch 0) ∷ Detect (Node.Switch 0) ∷ Time (1000 ∷ 1000 ∷ 1000 ∷ []) ∷ Feed 7 (98 ∷ 0 ∷ []) ∷ Next ∷ Next ∷ []

-- the world after them
abbrev pub snapshot_end : World
snapshot_end = (run letters opening events).0

-- the lines, without those of frames
abbrev pub snapshot_lines : List Line
snapshot_lines = without_sends (run letters opening events).1
