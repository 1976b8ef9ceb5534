-- A world as it is kept, of an application and a setup.
use Rattle.std.specs.Prelude.{◌≡◌, length}
use Rattle.rp_app.specs.Application.{Application}
use Rattle.proto_model.specs.World.{World, Setup}
use Rattle.world_state.specs.declared.state.WorldState.{WorldState}
use Rattle.world_state.specs.WorldStates.{IsRun, world_of}

-- a world with the nodes and the terms of its setup
pub record IsFrom (setup : Setup) (w : World) : Type 0 where
  pub switches : length w.switches ≡ setup.switches
  pub replicas : length w.replicas ≡ setup.replicas
  pub terms : w.terms ≡ setup.terms

-- what is kept to between calls: the application's run goes on in the world of its setup
pub record IsGoing (app : Application) (setup : Setup) (s : WorldState) : Type 0 where
  pub run : IsRun app s
  pub from : IsFrom setup (world_of s)
