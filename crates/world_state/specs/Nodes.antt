-- The nodes of a run as they are kept, and the nodes of the definitions that they stand for.
use Rattle.std.specs.Prelude.{ℕ, ◌+◌, ◌*◌, ◌≡◌, ◌≤◌, Bool, true, false, List, [], ◌∷◌, Option, Some, if◌then◌else◌, map}
use Rattle.proto_data.specs.declared.message.Config.{Config}
use Rattle.proto_data.specs.declared.terms.Terms.{Terms}
use Rattle.proto_model.specs.Stands.{Stands}
use Rattle.proto_model.specs.World.{SwitchNode, ReplicaNode}
use Rattle.switch_core.specs.States.{opened}
use Rattle.store_replica.specs.Stores.{opened as opened_replica}
use Rattle.world_state.specs.declared.nodes.SwitchNode.{SwitchNode as SwitchSeat}
use Rattle.world_state.specs.declared.nodes.ReplicaNode.{ReplicaNode as ReplicaSeat}

-- a switch, which routing believes up or not
abbrev pub switch_node : Bool → SwitchSeat → SwitchNode
switch_node believed s = record { runs = s.runs; believed = believed; clock = s.clock; state = s.state.state }

-- the switches of a run, in order of number
abbrev pub switch_nodes : List Bool → List SwitchSeat → List SwitchNode
switch_nodes [] ss = []
switch_nodes (b ∷ bs) [] = []
switch_nodes (b ∷ bs) (s ∷ ss) = switch_node b s ∷ switch_nodes bs ss

-- a replica with its book
abbrev pub replica_node : ReplicaSeat → ReplicaNode
replica_node r = record { runs = r.runs; clock = r.clock; state = r.state.replica; book = r.book }

-- the replicas of a run, in order of number
abbrev pub replica_nodes : List ReplicaSeat → List ReplicaNode
replica_nodes rs = map replica_node rs

-- ---- before the first event

-- a switch in this incarnation, with this clock
abbrev pub begun_switch : ℕ → ℕ → ℕ → ℕ → Terms → Config → SwitchSeat
begun_switch clock me inc cells terms config = record { runs = true; clock = clock; state = opened me inc cells terms config }

-- a replica whose clock stands at 0
abbrev pub begun_replica : ℕ → ℕ → Terms → Config → ReplicaSeat
begun_replica me cells terms config = record { runs = true; clock = 0; state = opened_replica me cells terms config; book = [] }

-- ---- clocks go on by one number for each node

-- each switch of these whose clock has a number goes on by it
abbrev pub switches_later : List SwitchSeat → List ℕ → List SwitchSeat
switches_later [] by = []
switches_later (s ∷ ss) [] = s ∷ ss
switches_later (s ∷ ss) (d ∷ ds) = record s { clock = s.clock + d } ∷ switches_later ss ds

-- each replica of these whose clock has a number goes on by it
abbrev pub replicas_later : List ReplicaSeat → List ℕ → List ReplicaSeat
replicas_later [] by = []
replicas_later (r ∷ rs) [] = r ∷ rs
replicas_later (r ∷ rs) (d ∷ ds) = record r { clock = r.clock + d } ∷ replicas_later rs ds

-- ---- a node stops

-- the switch fails; its clock goes on
abbrev pub switch_stops : SwitchSeat → SwitchSeat
switch_stops s = record s { runs = false }

-- the replica fails; its clock goes on
abbrev pub replica_stops : ReplicaSeat → ReplicaSeat
replica_stops r = record r { runs = false }

-- ---- the replica whose book is committed

-- the last of these replicas that runs, or else the one that was found before them
abbrev pub last_running : Option ReplicaSeat → List ReplicaSeat → Option ReplicaSeat
last_running last [] = last
last_running last (r ∷ rs) = last_running (if r.runs then Some r else last) rs

-- ---- what is kept to

-- a clock after so many calls, each of which takes it on by at most 1,000,000,000
abbrev pub ClockWithin : ℕ → ℕ → Type 0
ClockWithin calls clock = clock ≤ 1000000000 * calls

-- a switch of an application with so many cells, after so many calls
pub record IsSwitchSeat (cells calls : ℕ) (s : SwitchSeat) : Type 0 where
  pub cells_are : s.state.cells ≡ cells
  pub turns : s.state.turns ≤ calls
  pub later : s.state.latest ≤ s.clock
  pub clock : ClockWithin calls s.clock

-- a replica that stands where its book leaves it
pub record IsReplicaSeat (calls : ℕ) (r : ReplicaSeat) : Type 0 where
  pub turns : r.state.turns ≤ calls
  pub clock : ClockWithin calls r.clock
  pub stands : Stands r.state.replica r.book
