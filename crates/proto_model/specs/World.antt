-- The state of a whole run: nodes with their clocks, every frame that was sent, the master, and the history.
use Rattle.std.specs.Prelude.{ℕ, ◌+◌, Bool, true, List, [], ◌∷◌, Option, if◌then◌else◌, map}
use Rattle.std.specs.List.{range_with_len}
use Rattle.proto_data.specs.declared.message.Msg.{Msg}
use Rattle.rp_base.specs.declared.node.Output.{Output}
use Rattle.rp_base.specs.declared.legality.Fed.{Fed}
use Rattle.rp_base.specs.declared.legality.Released.{Released}
use Rattle.proto_data.specs.declared.message.Config.{Config}
use Rattle.proto_data.specs.declared.terms.Terms.{Terms}
use Rattle.proto_model.specs.SwitchState.{Switch, Item, Begun, open_switch}
use Rattle.proto_model.specs.Records.{Booked}
use Rattle.proto_model.specs.ReplicaState.{Replica, open_replica}

-- a switch, whether it runs, and whether routing believes it up
pub record SwitchNode : Type 0 where
  pub runs : Bool
  pub believed : Bool
  pub clock : ℕ
  pub state : Switch

-- a replica, whether it runs, and the entries that it applied
pub record ReplicaNode : Type 0 where
  pub runs : Bool
  pub clock : ℕ
  pub state : Replica
  pub book : List Booked

-- what was processed and begun, each with the number of its event
pub record Journaled : Type 0 where
  pub event : ℕ
  pub item : Item
  pub output : Option Output

-- a begun round, with the number of items that were processed before it
pub record RoundBegun : Type 0 where
  pub event : ℕ
  pub begun : Begun
  pub items_before : ℕ

pub record History : Type 0 where
  pub fed : List Fed
  pub released : List Released
  pub items : List Journaled
  pub rounds : List RoundBegun

-- frames are numbered in order of sending; `passed` are the numbers of those that `next` passes over
pub record World : Type 0 where
  pub terms : Terms
  pub linked : Bool
  pub switches : List SwitchNode
  pub replicas : List ReplicaNode
  pub config : Config
  pub frames : List Msg
  pub passed : List ℕ
  pub event : ℕ
  pub history : History

-- the number of nodes and the terms of a run, and whether its frames go over a link
pub record Setup : Type 0 where
  pub switches : ℕ
  pub replicas : ℕ
  pub terms : Terms
  pub linked : Bool

-- the numbers below n
abbrev pub below : ℕ → List ℕ
below n = range_with_len 0 n

abbrev pub first_config : ℕ → Config
first_config replicas = record { number = 1; chain = below replicas }

abbrev pub open_switch_node : Setup → ℕ → SwitchNode
open_switch_node setup n =
    record { runs = true; believed = true; clock = 0; state = open_switch n 1 setup.terms (first_config setup.replicas) }

abbrev pub open_replica_node : ℕ → Setup → ℕ → ReplicaNode
open_replica_node cells setup n =
    record { runs = true; clock = 0; state = open_replica n cells setup.terms (first_config setup.replicas); book = [] }

-- every node runs, and nothing happened
abbrev pub opened : ℕ → Setup → World
opened cells setup =
    record {
      terms = setup.terms;
      linked = setup.linked;
      switches = map (open_switch_node setup) (below setup.switches);
      replicas = map (open_replica_node cells setup) (below setup.replicas);
      config = first_config setup.replicas;
      frames = [];
      passed = [];
      event = 0;
      history = record { fed = []; released = []; items = []; rounds = [] };
    }

-- the numbers of the nodes of a list that pass a test
abbrev pub numbers_from : {N : Type 0} → (N → Bool) → ℕ → List N → List ℕ
numbers_from test n [] = []
numbers_from test n (x ∷ xs) = if test x then n ∷ numbers_from test (n + 1) xs else numbers_from test (n + 1) xs

abbrev pub running_switches : World → List ℕ
running_switches w = numbers_from (λ (n : SwitchNode). n.runs) 0 w.switches

abbrev pub believed_switches : World → List ℕ
believed_switches w = numbers_from (λ (n : SwitchNode). n.believed) 0 w.switches

abbrev pub running_replicas : World → List ℕ
running_replicas w = numbers_from (λ (n : ReplicaNode). n.runs) 0 w.replicas
