-- A world as it is kept, and the world of the definitions that it stands for.
use Rattle.std.specs.Prelude.{◌+◌, ◌≡◌, ◌≤◌, length}
use Rattle.std.specs.List.{AllByRecursion}
use Rattle.rp_app.specs.Application.{Application}
use Rattle.proto_data.specs.declared.terms.Mode.{Mode}
use Rattle.proto_model.specs.World.{World}
use Rattle.proto_safety.specs.Sizes.{SizedAt}
use Rattle.world_state.specs.declared.state.WorldState.{WorldState}
use Rattle.world_state.specs.Waiting.{AreCursors}
use Rattle.world_state.specs.Nodes.{switch_nodes, replica_nodes, IsSwitchSeat, IsReplicaSeat}

-- the world of these nodes, routes, frames and history
abbrev pub world_of : WorldState → World
world_of s =
    record {
      terms = s.terms;
      linked = s.linked;
      switches = switch_nodes s.router.believed s.switches;
      replicas = replica_nodes s.replicas;
      config = s.router.config;
      frames = s.frames;
      passed = s.passed;
      event = s.event;
      history = s.history;
    }

-- ---- what is kept to

-- No node was called more often than the world. Replicas stand where their books leave them. Numbers are as the calls allow.
pub record IsRun (app : Application) (s : WorldState) : Type 0 where
  pub cells : s.cells ≡ app.cell_count
  pub few : app.cell_count ≤ 256
  pub few_strict : s.terms.mode ≡ Mode.Strict → app.cell_count ≤ 32
  pub term : s.terms.t_switch ≤ 1000000
  pub ratio : s.terms.ratio ≤ 1000
  pub routed : length s.router.believed ≡ length s.switches
  pub switches : AllByRecursion (IsSwitchSeat s.cells s.calls) s.switches
  pub replicas : AllByRecursion (IsReplicaSeat s.calls) s.replicas
  pub sized : SizedAt (s.calls + 1) app (world_of s)
  pub waiting : AreCursors s.frames s.passed s.cursors
