-- Runs whose losses aren't bounded, each for want of one premise.
use Rattle.std.specs.Prelude.{[], ◌∷◌}
use Rattle.proto_data.specs.declared.terms.Mode.{Mode}
use Rattle.proto_data.specs.declared.terms.Terms.{Terms}
use Rattle.rp_base.specs.declared.event.Event.TheVariants.{Feed, FeedAt, Next, Time}
use Rattle.rp_app.specs.Application.{counting}
use Rattle.proto_model.specs.World.{World, opened}
use Rattle.proto_model.specs.WorldStep.{world_after}
use Rattle.proto_safety.specs.NeededPremises.{over_one, unmarked}

-- terms that hold, in this mode
abbrev pub long_terms : Mode → Terms
long_terms mode = record { t_switch = 1000; t_store = 1100; ratio = 50; mode = mode }

-- in strict mode an update is committed by a Put, and no round keeps it
abbrev pub strict_run : World
strict_run = world_after counting (opened 1 (over_one 1 (long_terms Mode.Strict))) (Feed 7 (97 ∷ 33 ∷ []) ∷ Next ∷ Next ∷ Next ∷ [])

-- with a bound of 0 a first update is processed, and isn't less than 0 before itself
abbrev pub boundless_run : World
boundless_run = world_after counting (opened 1 (over_one 1 (long_terms (Mode.Snapshot 0)))) (Feed 7 (97 ∷ 33 ∷ []) ∷ Next ∷ Next ∷ [])

-- the store gives the flow to the other switch while the lease runs, and the first one processes what was fed behind a release of the second
abbrev pub early_run : World
early_run =
    world_after counting (opened 1 (over_one 2 (record { t_switch = 1000; t_store = 1; ratio = 50; mode = Mode.Snapshot 100 })))
    (FeedAt 0 7 (97 ∷ 33 ∷ []) ∷ Next ∷ Next ∷ Time (10 ∷ 10 ∷ 10 ∷ []) ∷ FeedAt 1 7 (97 ∷ 33 ∷ []) ∷ Next ∷ Next ∷ FeedAt 0 7 (97 ∷ 63 ∷ []) ∷ [])

-- one packet of an application whose outputs have no packet's mark
abbrev pub unmarked_run : World
unmarked_run = world_after unmarked (opened 0 (over_one 1 (long_terms (Mode.Snapshot 100)))) (Feed 7 (97 ∷ []) ∷ [])
