-- A frame that comes over a link: which one its bytes are, and its delivery within the present event.
use Rattle.std.specs.Prelude.{ℕ, ◌+◌, ◌&&◌, List, [], ◌∷◌, Option, Some, None, if◌then◌else◌, slice_get}
use Rattle.std.specs.Str.{bytes_eq}
use Rattle.proto_data.specs.declared.message.Msg.{Msg}
use Rattle.rp_base.specs.declared.node.Node.{Node}
use Rattle.rp_base.specs.Nodes.{same_node}
use Rattle.proto_data.specs.declared.message.Input.{Input}
use Rattle.rp_app.specs.Application.{Application}
use Rattle.proto_model.specs.World.{World}
use Rattle.proto_model.specs.Effects.{frame_passed}
use Rattle.proto_model.specs.WorldStep.{WorldStep, node_takes}

abbrev pub handed : Application → World → ℕ → Option Msg → WorldStep
handed app w i None = (w, [])
handed app w i (Some m) = node_takes app (frame_passed w i) m.to (Input.Msg m)

-- Frame i is delivered within the present event. It was sent, its addressee runs, and there is room for 64 more frames.
abbrev pub hand : Application → World → ℕ → WorldStep
hand app w i = handed app w i (slice_get w.frames i)

-- the first frame of these bytes that was sent to this node; `spelled` are a message's bytes
abbrev pub found_from : (Msg → List ℕ) → Node → List ℕ → ℕ → List Msg → Option ℕ
found_from spelled to bytes i [] = None
found_from spelled to bytes i (m ∷ ms) =
    if same_node m.to to && bytes_eq (spelled m) bytes then Some i else found_from spelled to bytes (i + 1) ms

abbrev pub found : (Msg → List ℕ) → World → Node → List ℕ → Option ℕ
found spelled w to bytes = found_from spelled to bytes 0 w.frames
