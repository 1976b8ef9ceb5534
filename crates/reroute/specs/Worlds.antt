-- The routes of a world, and what a detection comes to there.
use Rattle.std.specs.Prelude.{◌≡◌, false, map, Result, Ok, Err}
use Rattle.rp_base.specs.declared.node.Node.{Node}
use Rattle.rp_base.specs.declared.event.Refusal.{Refusal}
use Rattle.proto_model.specs.World.{World, SwitchNode}
use Rattle.proto_model.specs.WorldStep.{Act, Refuses, Detects, runs_now}
use Rattle.reroute.specs.declared.router.DetectEnd.{DetectEnd}
use Rattle.reroute.specs.declared.router.DetectEnd.TheVariants as end
use Rattle.reroute.specs.Routes.{Routes}

-- what a world believes of its nodes
abbrev pub routes_of : World → Routes
routes_of w = record { believed = map (λ (n : SwitchNode). n.believed) w.switches; config = w.config }

-- the act of a detection, by its answer
abbrev pub act_by : Node → Result (Unit {0}) DetectEnd → Act
act_by node (Ok done) = Detects node
act_by node (Err end.Alive) = Refuses Refusal.Alive
act_by node (Err end.Known) = Refuses Refusal.Known

-- where the node is a replica, it has failed
abbrev pub HasFailed : World → Node → Type 0
HasFailed w (Node.Switch n) = Unit {0}
HasFailed w (Node.Replica n) = runs_now w (Node.Replica n) ≡ false
HasFailed w Node.Master = Unit {0}
