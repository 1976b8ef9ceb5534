-- A world that begins.
use Rattle.std.proofs.Common.{◌≡◌, ◌≤◌, ℕ, [], refl, arith}
use Rattle.proto_safety.proofs.Messages.FramesGrow.{so_many_nodes}
use Rattle.rp_app.specs.Application.{Application}
use Rattle.proto_data.specs.declared.terms.Mode.{Mode}
use Rattle.proto_model.specs.World.{Setup, opened}
use Rattle.rp_world.specs.AppWorld.{CellsFit}
use Rattle.rp_world.specs.Begun.{IsFrom}

-- no mode allows more than 256 cells
pub fits_any : (mode : Mode) (cells : ℕ) → CellsFit mode cells → cells ≤ 256
fits_any Mode.Strict cells fits = omega (arith, fits)
fits_any (Mode.Snapshot bound) cells fits = fits

-- strict mode allows at most 32
pub fits_strict : (mode : Mode) (cells : ℕ) → CellsFit mode cells → mode ≡ Mode.Strict → cells ≤ 32
fits_strict Mode.Strict cells fits strict = fits
fits_strict (Mode.Snapshot bound) cells fits strict = cc

-- a world begins with the nodes and the terms of its setup
pub opened_from : (app : Application) (setup : Setup) → IsFrom setup (opened app.cell_count setup)
opened_from app setup = let nodes = so_many_nodes app setup [] in record { switches = nodes.0; replicas = nodes.1; terms = refl }
