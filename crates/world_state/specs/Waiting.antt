-- From where `next` looks for each node's first waiting frame.
use Rattle.std.specs.Prelude.{ℕ, ◌≡◌, ◌≤◌, ◌<◌, ◌-◌, Bool, true, false, not, ◌&&◌, List, Some, length, if◌then◌else◌, nat_lt, slice_get}
use Rattle.rp_base.specs.declared.node.Node.{Node}
use Rattle.proto_data.specs.declared.message.Msg.{Msg}
use Rattle.proto_model.specs.World.{World}
use Rattle.proto_model.specs.WorldStep.{is_next, runs_now}
use Rattle.sent_frames.specs.Frames.{goes_to}
use Rattle.world_state.specs.Passing.{is_passed}

-- the node of a cursor: switches 0 to 7, then replicas from 0
abbrev pub node_of : ℕ → Node
node_of k = if nat_lt k 8 then Node.Switch k else Node.Replica (k - 8)

-- whether the frame of this number waits for a node
abbrev pub waits : List Msg → List ℕ → Node → ℕ → Bool
waits frames passed to i = not (is_passed passed i) && goes_to to (slice_get frames i)

-- no frame below this number waits for the node: each is passed over or goes elsewhere
pub record NoneWaits (frames : List Msg) (passed : List ℕ) (to : Node) (below : ℕ) : Type 0 where
  pub within : below ≤ length frames
  pub over : (i : ℕ) (m : Msg) → i < below → slice_get frames i ≡ Some m → m.to ≡ to → is_passed passed i ≡ true

-- no frame below a node's cursor waits for it
pub record AreCursors (frames : List Msg) (passed : List ℕ) (cursors : List ℕ) : Type 0 where
  pub count : length cursors ≡ 13
  pub each : (k c : ℕ) → slice_get cursors k ≡ Some c → NoneWaits frames passed (node_of k) c

-- no frame below this number is the one that `next` takes
abbrev pub NoneTaken : World → List Msg → ℕ → Type 0
NoneTaken w frames below = (i : ℕ) (m : Msg) → i < below → slice_get frames i ≡ Some m → is_next w i m ≡ false

-- this is no more than any cursor, of those before `count`, whose node runs
abbrev pub IsLeast : World → List ℕ → ℕ → ℕ → Type 0
IsLeast w cursors count least = (k c : ℕ) → k < count → slice_get cursors k ≡ Some c → runs_now w (node_of k) ≡ true → least ≤ c
