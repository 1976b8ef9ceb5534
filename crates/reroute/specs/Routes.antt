-- Which nodes are believed up, and what a detection does to that.
use Rattle.std.specs.Prelude.{ℕ, ◌+◌, ◌==◌, ◌&&◌, ◌≤◌, Bool, true, false, not, List, length, filter, if◌then◌else◌, Option, Some, None, replicate, Result, Ok, Err, slice_get, slice_set}
use Rattle.std.specs.List.{list_any}
use Rattle.rp_base.specs.declared.node.Node.{Node}
use Rattle.proto_data.specs.declared.message.Config.{Config}
use Rattle.proto_model.specs.World.{numbers_from, first_config}
use Rattle.reroute.specs.declared.router.DetectEnd.{DetectEnd}
use Rattle.reroute.specs.declared.router.DetectEnd.TheVariants as end

-- of each switch whether it is believed up, and the configuration, whose members are the replicas that are
pub record Routes : Type 0 where
  pub believed : List Bool
  pub config : Config

-- No number of a configuration passes 6: it rises by one where a replica leaves, and there are at most 5.
pub record IsRoutes (routes : Routes) : Type 0 where
  pub counts : routes.config.number + length routes.config.chain ≤ 6
  pub few : length routes.believed ≤ 8

-- at the start every node is believed up
abbrev pub first_routes : ℕ → ℕ → Routes
first_routes switches replicas = record { believed = replicate switches true; config = first_config replicas }

-- the switches that are believed up, in order of number
abbrev pub switches_up : List Bool → List ℕ
switches_up believed = numbers_from (λ (b : Bool). b) 0 believed

-- whether a switch that may be there is believed up
abbrev pub up_at : Option Bool → Bool
up_at None = false
up_at (Some up) = up

-- whether a node is believed up
abbrev pub is_up : Routes → Node → Bool
is_up r (Node.Switch n) = up_at (slice_get r.believed n)
is_up r (Node.Replica n) = list_any (λ m. m == n) r.config.chain
is_up r Node.Master = false

-- the configuration after this replica left
abbrev pub left : Config → ℕ → Config
left c n = record { number = c.number + 1; chain = filter (λ m. not (m == n)) c.chain }

-- The view of a node that runs, or doesn't, becomes true: a switch is believed up exactly where it runs, and a replica leaves
-- where it doesn't.
abbrev pub seen : Routes → Node → Bool → Routes
seen r (Node.Switch n) runs = record r { believed = slice_set r.believed n runs }
seen r (Node.Replica n) true = r
seen r (Node.Replica n) false = record r { config = left r.config n }
seen r Node.Master runs = r

-- a detection of a node that runs, or doesn't: the routes behind it, or why it is refused
abbrev pub detection : Routes → Node → Bool → Routes × Result (Unit {0}) DetectEnd
detection r node runs =
    if runs && is_up r node then (r, Err end.Alive)
    else if not runs && not (is_up r node) then (r, Err end.Known)
    else (seen r node runs, Ok tt)
