-- A run in which nothing is in the way of the one packet's Ask and Put.
use Rattle.std.specs.Prelude.{ℕ, [], ◌∷◌, false, slice_get, unwrap_or, replicate}
use Rattle.proto_data.specs.declared.message.Msg.{Msg}
use Rattle.proto_data.specs.declared.message.Body.{Body}
use Rattle.rp_base.specs.declared.node.Node.{Node}
use Rattle.proto_data.specs.declared.terms.Mode.{Mode}
use Rattle.rp_base.specs.declared.node.Packet.{Packet}
use Rattle.rp_base.specs.declared.node.Output.{Output}
use Rattle.rp_base.specs.declared.event.Event.TheVariants.{Feed, Next}
use Rattle.rp_app.specs.Application.{counting}
use Rattle.proto_model.specs.Runs.{Run, before}
use Rattle.proto_model.specs.Straight.{Hop}

-- one packet over a chain of so many replicas, everything delivered in order
abbrev pub run_of : ℕ → Run
run_of chain =
    record {
      app = counting;
      setup = record { switches = 1; replicas = chain; terms = record { t_switch = 1000; t_store = 1100; ratio = 50; mode = Mode.Strict }; linked = false };
      events = Feed 7 (97 ∷ 33 ∷ []) ∷ replicate 7 Next;
    }

-- what stands for a frame that there is not
abbrev pub no_msg : Msg
no_msg = record { from = Node.Master; to = Node.Master; body = Body.Have 0 }

-- this frame is delivered at this place
abbrev pub hop : Run → ℕ → ℕ → Hop
hop r place frame = record { place = place; frame = frame; msg = unwrap_or (slice_get (before r place).frames frame) no_msg }

-- the packet
abbrev pub packet : Packet
packet = record { mark = 1; port = 7; bytes = 97 ∷ 33 ∷ [] }

-- its output
abbrev pub out : Output
out = record { mark = 1; port = 7; bytes = 0 ∷ 0 ∷ 0 ∷ 0 ∷ 0 ∷ 0 ∷ 0 ∷ 1 ∷ 97 ∷ 33 ∷ [] }
