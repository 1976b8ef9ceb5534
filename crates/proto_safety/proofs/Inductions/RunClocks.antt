-- The clocks of one run: a refused `time` event doesn't count, and a failed node's clock goes on.
use Rattle.std.specs.Prelude.{[], ◌∷◌, ◌≡◌, refl, false, map}
use Rattle.rp_base.specs.declared.node.Node.{Node}
use Rattle.proto_data.specs.declared.terms.Mode.{Mode}
use Rattle.rp_base.specs.declared.event.Event.TheVariants.{Feed, Time, Fail}
use Rattle.rp_app.specs.Application.{counting}
use Rattle.proto_model.specs.Clocks.{clocks}
use Rattle.proto_model.specs.Runs.{Run, before, clock}

abbrev timed : Run
timed =
    record {
      app = counting;
      setup = record { switches = 2; replicas = 1; terms = record { t_switch = 1000; t_store = 1100; ratio = 50; mode = Mode.Strict }; linked = false };
      events = Time (100 ∷ 105 ∷ 100 ∷ []) ∷ Time (100 ∷ 106 ∷ 100 ∷ []) ∷ Feed 7 (97 ∷ []) ∷ Fail (Node.Switch 1) ∷ Time (20 ∷ 21 ∷ 20 ∷ []) ∷ [];
    }

sums : map (λ x. clock timed x 5) (0 ∷ 1 ∷ 2 ∷ []) ≡ 120 ∷ 126 ∷ 120 ∷ []
sums = refl

as_clocks : clocks (before timed 5) ≡ 120 ∷ 126 ∷ 120 ∷ []
as_clocks = refl
